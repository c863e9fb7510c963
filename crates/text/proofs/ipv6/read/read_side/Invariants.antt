use Rattle.std.proofs.Common.{length}
use Rattle.text.proofs.Sides.{Gone}
use Rattle.text.proofs.ipv6.read.read_side.Given as goal

abbrev pub invariant-loop-word : goal.invariant-loop-word
invariant-loop-word l = let number = l.groups.0 in let count = l.groups.1.0 in Gone l.text l.most count number (length l.yielded) l.place
