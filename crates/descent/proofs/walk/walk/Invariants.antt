use Rattle.std.proofs.Common.{◌≡◌, drop}
use Rattle.descent.proofs.Going.{Going}
use Rattle.descent.proofs.walk.walk.Given as goal

abbrev pub invariant-loop-stride : goal.invariant-loop-stride
invariant-loop-stride g l =
    g.M.NodeRead.still l.fn.memory l.memory
    × (l.visits ≡ l.stride-index)
    × Going (g.M.NodeRead.nodes l.fn.memory) l.stride-items (g.A.Address.bits l.address) (drop l.stride-index l.stride-items) l.offset l.node l.visits l.last
