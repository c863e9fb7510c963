use Rattle.std.proofs.Common.{take}
use Rattle.descent.proofs.Placing.{Placing}
use Rattle.descent.proofs.trails.find_spot.Given as goal

abbrev pub invariant-loop-stride : goal.invariant-loop-stride
invariant-loop-stride g l = Placing l.stride-items (take l.length (g.A.Address.bits l.address)) l.stride-index l.offset l.way.items
