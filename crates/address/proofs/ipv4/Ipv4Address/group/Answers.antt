use Rattle.std.proofs.Common.{◌≡◌, ◌-◌, ◌/◌, ◌^◌, ◌<◌, ap, ◌∙◌, arith, rules}
use Rattle.bits.proofs.Words.{read_top, top_by_steps}
use Rattle.address.proofs.ipv4.Ipv4Address.group.Goals as goal

pub returns : goal.returns
returns c =
    let v = c.args.self.now.bits in
    let p = c.min.result in
    let same : c.from.result ≡ v = search rules in
    let small : v < 2 ^ 32 = search rules in
    rw same
    (ap (λ x. x / 2 ^ 58 / 2 ^ (6 - c.min-2.result)) (top_by_steps 64 32 p v (omega arith) (omega arith) small)
    ∙ read_top 64 32 c.args.place p c.args.len c.min-2.result v (omega arith) (omega arith) c.min.ensures c.min-2.ensures)
