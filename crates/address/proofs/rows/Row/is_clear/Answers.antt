use Rattle.std.proofs.Common.{min, eqb, refl, ap, ◌∙◌, arith}
use Rattle.bits.proofs.Words.{clear_top}
use Rattle.address.proofs.rows.Row.is_clear.Goals as goal

pub returns : goal.returns
returns g c =
    let v = c.args.self.now in
    ap (λ x. eqb x 0) c.from_place.ensures
    ∙ clear_top 128 g.row.N c.args.place (min c.args.place g.row.N) v.number (omega (arith, v.within_word)) refl
