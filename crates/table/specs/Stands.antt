-- The plain list that a table stands for, by a placement; and what a call that only reads keeps.
use Rattle.std.specs.Prelude.{◌≡◌, ℕ, List, length, Some, None, Option}
use Rattle.std.specs.Option.{option_map}
use Rattle.address.specs.declared.Address.{Ghosts as Kind}
use Rattle.model.specs.Calls.{Plain, holding, shut}
use Rattle.model.specs.Nodes.{Nodes}
use Rattle.model.specs.Placements.{Placement, front}
use Rattle.model.specs.Required.{required}
use Rattle.model.specs.Routes.{Routes}
use Rattle.plan.specs.Strides.{strides_of}
use Rattle.walks.specs.Shows.{Shows}
use Rattle.table.specs.declared.Table.{Table}

-- what the fields of a table are where it holds routes: its memory shows them by the placement, and it has counted them and the nodes that they require
pub record Open (W : ℕ) (nodes : Nodes) (strides : Option (List ℕ)) (at_front count needs : ℕ) (plan : List ℕ) (routes : Routes) (at : Placement) : Type 0 where
  pub planned : strides ≡ Some plan
  pub shows : Shows W nodes plan routes at
  pub chain : at_front ≡ front at.free
  pub counted : count ≡ length routes
  pub requires : needs ≡ required plan routes

abbrev pub StandsFor : ℕ → Nodes → Option (List ℕ) → ℕ → ℕ → ℕ → Plain → Placement → Type 0
StandsFor W nodes strides at_front count needs shut at = strides ≡ None
StandsFor W nodes strides at_front count needs (holding plan routes) at = Open W nodes strides at_front count needs plan routes at

module _ {X Y : Type 0} {G : Kind X} (nodes : Y → Nodes) (W : ℕ) where
  -- the table stands for the plain list
  abbrev pub Stands : Table X Y G → Plain → Placement → Type 0
  Stands t plain at = StandsFor W (nodes t.memory) (option_map strides_of t.plan) t.front t.routes t.required plain at

module _ {X Y : Type 0} {G : Kind X} (still : Y → Y → Type 0) where
  -- what a call that only reads, or is refused, keeps: what every reading of the memory keeps, and all that the table keeps beside the memory
  pub record Still (t u : Table X Y G) : Type 0 where
    pub memory : still t.memory u.memory
    pub plan : u.plan ≡ t.plan
    pub chain : u.front ≡ t.front
    pub routes : u.routes ≡ t.routes
    pub required : u.required ≡ t.required
