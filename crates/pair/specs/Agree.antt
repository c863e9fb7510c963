-- Both engines of a pair stand for the same plain list, in memories of as many nodes.
use Rattle.std.specs.Prelude.{◌≡◌, ℕ}
use Rattle.address.specs.declared.Address.{Ghosts as Kind}
use Rattle.model.specs.Nodes.{Nodes}
use Rattle.model.specs.Placements.{Placement}
use Rattle.reference.specs.Shown.{shown}
use Rattle.table.specs.Stands.{Stands}
use Rattle.pair.specs.declared.Pair.{Pair}

module _ {X Y : Type 0} {G : Kind X} (nodes : Y → Nodes) (W : ℕ) where
  pub record AgreeBy (p : Pair X Y G) (at : Placement) : Type 0 where
    pub stands : Stands nodes W p.table (shown p.list) at
    pub size : (nodes p.table.memory).size ≡ p.list.nodes

  -- by some placement
  abbrev pub Agree : Pair X Y G → Type 0
  Agree p = (at : Placement) × AgreeBy p at
