use Rattle.std.proofs.Common.{ap, ◌∙◌, arith}
use Rattle.bits.specs.Rows.{top}
use Rattle.bits.proofs.Words.{top_by_steps}
use Rattle.address.proofs.rows.Row.from_place.Goals as goal

pub returns-then-place : goal.returns-then-place
returns-then-place g c =
    let v = c.args.self.now in
    top_by_steps 128 g.row.N c.args.place v.number v.within_word (omega arith) v.small
    ∙ ap (λ p. top 128 g.row.N p v.number) (omega arith)
