use Rattle.std.proofs.Common.{◌≡◌, sym, ap₂, ◌∙◌}
use Rattle.std.specs.Ordering.{ordering_then}
use Rattle.bits.specs.Order.{by_address}
use Rattle.bits.proofs.Prefixes.{prefix_order, sizes_is}
use Rattle.address.proofs.prefix.Prefix.compare.Goals as goal

pub returns : goal.returns
returns g c =
    let p = c.args.self.now in
    let q = c.args.other.now in
    let a = g.A.Address.bits p.address in
    let b = g.A.Address.bits q.address in
    let long = g.met.A.Address.long in
    let is : c.then.result ≡ by_address a p.length b q.length = c.then.ensures ∙ ap₂ ordering_then c.compare.ensures (c.cmp.ensures ∙ sizes_is p.length q.length) in
    record {
      value = is;
      sound = λ s t. is ∙ prefix_order a b p.length q.length (long p.address ∙ sym (long q.address)) s t;
    }
