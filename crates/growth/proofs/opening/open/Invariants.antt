use Rattle.std.proofs.Common.{◌≡◌}
use Rattle.growth.specs.Clearing.{opened_below}
use Rattle.growth.proofs.opening.open.Given as goal

abbrev pub invariant-loop-node : goal.invariant-loop-node
invariant-loop-node g l =
    g.M.NodeRead.always l.fn.memory l.memory
    × (g.M.NodeRead.nodes l.memory ≡ opened_below (g.M.NodeRead.nodes l.fn.memory) l.node)
