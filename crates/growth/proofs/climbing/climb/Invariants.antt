use Rattle.std.proofs.Common.{◌≡◌, ℕ, ◌+◌, List, length}
use Rattle.bits.specs.Rows.{Bits}
use Rattle.model.specs.Placements.{Placement}
use Rattle.model.specs.Routes.{Routes}
use Rattle.growth.specs.Ways.{Climbs}
use Rattle.growth.proofs.Returned.{ClimbedTo}
use Rattle.growth.proofs.climbing.climb.Given as goal

abbrev pub invariant-loop-level : goal.invariant-loop-level
invariant-loop-level g l =
    g.M.NodeRead.always l.fn.memory l.memory
    × (l.climbed.returned + l.level ≡ length l.indexes)
    × ((W : ℕ) (plan : List ℕ) (routes : Routes) (at : Placement) (p : Bits)
    → Climbs W (g.M.NodeRead.nodes l.fn.memory) plan routes at p l.fn.front l.way l.indexes
    → ClimbedTo (g.M.NodeRead.nodes l.fn.memory).size plan routes at p l.level (g.M.NodeRead.nodes l.memory) l.climbed.front l.climbed.returned)
