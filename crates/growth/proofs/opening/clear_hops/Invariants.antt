use Rattle.std.proofs.Common.{◌≡◌, true}
use Rattle.nodes.specs.Fields.{is_node}
use Rattle.growth.specs.Clearing.{without_hops}
use Rattle.growth.proofs.opening.clear_hops.Given as goal

abbrev pub invariant-loop-position : goal.invariant-loop-position
invariant-loop-position g l =
    g.M.NodeRead.always l.fn.memory l.memory
    × (is_node (g.M.NodeRead.nodes l.fn.memory) l.node ≡ true → g.M.NodeRead.nodes l.memory ≡ without_hops (g.M.NodeRead.nodes l.fn.memory) l.node l.position)
