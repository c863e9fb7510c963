use Rattle.std.proofs.Common.{ℕ, ◌+◌, List}
use Rattle.bits.specs.Rows.{Bits}
use Rattle.model.specs.Placements.{Placement}
use Rattle.model.specs.Routes.{Routes}
use Rattle.growth.specs.Ways.{Attaches}
use Rattle.growth.proofs.Taken.{TakenTo}
use Rattle.growth.proofs.attaching.attach.Given as goal

abbrev pub invariant-loop-index : goal.invariant-loop-index
invariant-loop-index g l =
    g.M.NodeRead.always l.fn.memory l.memory
    × ((W : ℕ) (plan : List ℕ) (routes : Routes) (at : Placement) (p : Bits) (k : ℕ)
    → Attaches W (g.M.NodeRead.nodes l.fn.memory) plan routes at p k l.fn.front l.fn.node l.missing
    → TakenTo (g.M.NodeRead.nodes l.fn.memory).size plan routes at p (k + l.index-index) (g.M.NodeRead.nodes l.memory) l.end.front l.end.node)
