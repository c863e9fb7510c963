-- Nodes show a plan and routes, by a placement: they are the image of every field that these give.
use Rattle.std.specs.Prelude.{◌≡◌, ℕ, List}
use Rattle.laws.specs.Lists.{Holdable}
use Rattle.model.specs.Nodes.{Nodes}
use Rattle.model.specs.Placements.{Placement, SoundPlacement, image}
use Rattle.model.specs.Routes.{Routes}

-- W is the width of the addresses
pub record Shows (W : ℕ) (nodes : Nodes) (plan : List ℕ) (routes : Routes) (at : Placement) : Type 0 where
  -- a plan for W bits, and ascending routes in range
  pub holdable : Holdable W plan routes
  pub sound : SoundPlacement nodes.size plan routes at
  pub is : nodes ≡ image nodes.size plan routes at
