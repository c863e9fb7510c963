use Rattle.std.proofs.Common.{◌≤◌}
use Rattle.text.specs.Reading.{Digit}
use Rattle.text.proofs.ipv6.read.read_word.Given as goal

abbrev pub invariant-loop-place : goal.invariant-loop-place
invariant-loop-place l = (l.place ≤ 4) × Digit l.text l.place l.number
