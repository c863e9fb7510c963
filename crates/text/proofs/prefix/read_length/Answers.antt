use Rattle.std.proofs.Common.{◌%◌, arith}
use Rattle.text.specs.Slashed.{length_text}
use Rattle.text.specs.Longest.{no_number, first_digit, rem_le, behind}
use Rattle.text.proofs.prefix.read_length.Goals as goal

pub returns-in_default : goal.returns-in_default
returns-in_default c =
    no_number length_text (λ v. first_digit (v % 1000) (omega (arith, rem_le 999 v))) c.args.text.now c.in_default.ensures

pub returns-then-end-text : goal.returns-then-end-text
returns-then-end-text c = behind c.in-Some.ensures (omega arith) c.if-end-text.true
