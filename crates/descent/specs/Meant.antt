-- What the answers of the way down stand for.
use Rattle.std.specs.Option.{option_map}
use Rattle.address.specs.declared.Address.{Ghosts}
use Rattle.bits.specs.Rows.{Bits}
use Rattle.model.specs.Nodes.{Walk}
use Rattle.model.specs.Routes.{Route, route}
use Rattle.routes.specs.Meant.{prefix_bits}
use Rattle.walks.specs.Trails.{Trail}
use Rattle.descent.specs.declared.Held.{Held}
use Rattle.descent.specs.declared.trails.Trail.{Trail as Way}
use Rattle.descent.specs.declared.walk.Matched.{Matched}

module _ {X : Type 0} {G : Ghosts X} (bits : X → Bits) where
  -- the route that is held
  abbrev pub held_route : Held X G → Route
  held_route h = route (prefix_bits bits h.prefix.prefix) h.hop

  -- what a lookup found, and how many nodes it visited
  abbrev pub matched_walk : Matched X G → Walk
  matched_walk m = record { found = option_map held_route m.found; visits = m.visits }

-- the way to a prefix's node
abbrev pub trail_meant : Way → Trail
trail_meant t = record { nodes = t.nodes.items; indexes = t.indexes.items; position = t.position; hop = t.hop }
