use Rattle.std.proofs.Common.{◌-◌, ◌/◌, ◌^◌, min, refl, ap, ◌∙◌, arith}
use Rattle.bits.proofs.Words.{read_top}
use Rattle.address.proofs.rows.Row.group.Goals as goal

pub returns : goal.returns
returns g c =
    let v = c.args.self.now in
    ap (λ x. x / 2 ^ 122 / 2 ^ (6 - c.min.result)) c.from_place.ensures
    ∙ read_top 128 g.row.N c.args.place (min c.args.place g.row.N) c.args.len c.min.result v.number v.within_word (omega arith) refl c.min.ensures
