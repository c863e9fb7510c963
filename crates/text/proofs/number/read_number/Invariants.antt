use Rattle.std.proofs.Common.{◌≡◌, ◌+◌, ◌≤◌, take, decimal}
use Rattle.text.proofs.number.read_number.Given as goal

abbrev pub invariant-loop-more : goal.invariant-loop-more
invariant-loop-more l = (l.number ≤ l.limit) × (take (1 + l.more) l.text ≡ decimal l.number)
