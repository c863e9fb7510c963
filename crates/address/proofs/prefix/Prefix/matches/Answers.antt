use Rattle.std.proofs.Common.{◌≡◌, nat_eq, Ordering, Less, Equal, Greater, refl, ap, ap₂, ◌∙◌}
use Rattle.std.specs.Ordering.{ordering_index}
use Rattle.bits.specs.Order.{order, is_equal}
use Rattle.address.proofs.FirstBits.{first_same}
use Rattle.address.proofs.prefix.Prefix.matches.Goals as goal

tested : (o : Ordering) → nat_eq (ordering_index o) 1 ≡ is_equal o
tested Less = refl
tested Equal = refl
tested Greater = refl

pub returns : goal.returns
returns g c =
    let a = c.args.self.now.address in
    let b = c.args.address.now in
    c.eq.ensures
    ∙ tested c.compare.result
    ∙ ap is_equal (c.compare.ensures ∙ ap₂ order c.first_bits.ensures c.first_bits-front.ensures)
    ∙ first_same g.A.Address.WIDTH c.args.self.now.length (g.A.Address.bits a) (g.A.Address.bits b) (g.met.A.Address.long a) (g.met.A.Address.long b)
