use Rattle.std.proofs.Common.{ℕ, eqb, ap, ◌∙◌, sym, le-ltb, arith}
use Rattle.std.proofs.lemmas.Nat.Bits.{shr_and_one}
use Rattle.model.specs.Nodes.{marked}
use Rattle.masks.proofs.Matches.{no_bit_above}
use Rattle.masks.proofs.is_marked.Goals as goal

pub returns-then-position-lt64 : goal.returns-then-position-lt64
unfolding marked
returns-then-position-lt64 c = ap (λ (b : ℕ). eqb b 1) (shr_and_one c.args.bitmap c.args.position)

pub returns-else-position-lt64 : goal.returns-else-position-lt64
returns-else-position-lt64 c =
    le-ltb c.args.position 64 c.if-position-lt64.false ∙ sym (no_bit_above c.args.bitmap c.args.position (omega arith) c.if-position-lt64.false)
