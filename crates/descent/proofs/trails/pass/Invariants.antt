use Rattle.descent.proofs.Passing.{Passing}
use Rattle.descent.proofs.trails.pass.Given as goal

abbrev pub invariant-loop-index : goal.invariant-loop-index
invariant-loop-index g l =
    g.M.NodeRead.still l.fn.memory l.memory
    × Passing (g.M.NodeRead.nodes l.fn.memory) l.indexes l.index-index l.node l.nodes.items
