use Rattle.std.proofs.Common.{◌≡◌, true}
use Rattle.nodes.specs.Fields.{is_node}
use Rattle.growth.specs.Clearing.{without_children}
use Rattle.growth.proofs.opening.clear_children.Given as goal

abbrev pub invariant-loop-index : goal.invariant-loop-index
invariant-loop-index g l =
    g.M.NodeRead.always l.fn.memory l.memory
    × (is_node (g.M.NodeRead.nodes l.fn.memory) l.node ≡ true → g.M.NodeRead.nodes l.memory ≡ without_children (g.M.NodeRead.nodes l.fn.memory) l.node l.index)
