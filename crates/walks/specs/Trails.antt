-- The trail of a prefix, on any memory: from the root down the nodes by its child indexes, as far as there are children.
use Rattle.std.specs.Prelude.{ℕ, Bool, true, ◌&&◌, cond, List, [], ◌∷◌, Option, ◌==◌}
use Rattle.bits.specs.Rows.{Bits}
use Rattle.model.specs.Nodes.{Nodes, held}
use Rattle.model.specs.Outcomes.{Outcome, granted}
use Rattle.model.specs.Placements.{Place, Placement, node_at}
use Rattle.model.specs.Places.{indexes, position_of}
use Rattle.model.specs.Plans.{offsets}
use Rattle.model.specs.Required.{member, required_paths, way}
use Rattle.model.specs.Routes.{Routes, find}
use Rattle.nodes.specs.Fields.{is_node}
use Rattle.walks.specs.Walks.{if_there}

pub record Trail : Type 0 where
  -- those that there are, from the root down
  pub nodes : List ℕ
  -- all child indexes that lead to the node where the prefix lies
  pub indexes : List ℕ
  -- where it lies in that node
  pub position : ℕ
  -- the hop that is held there
  pub hop : Option ℕ

-- the nodes that child indexes lead through, from a node on, as far as there are children
abbrev pub passed : Nodes → ℕ → List ℕ → List ℕ
passed nodes n [] = n ∷ []
passed nodes n (i ∷ is) =
    let c = nodes.child n i in
    let below = passed nodes c is in
    n ∷ cond (c == 0) [] below

-- each of these is a node that the memory has
abbrev pub are_nodes : Nodes → List ℕ → Bool
are_nodes nodes [] = true
are_nodes nodes (n ∷ ns) = is_node nodes n && are_nodes nodes ns

-- the trail of a prefix
unfoldable pub trailed : Nodes → List ℕ → Bits → Outcome Trail
trailed nodes plan p =
    let through = passed nodes 0 (indexes plan p) in
    if_there (are_nodes nodes through)
    (granted (record { nodes = through; indexes = indexes plan p; position = position_of plan p; hop = held nodes plan p }))

-- the hop of a prefix
unfoldable pub looked_at : Nodes → List ℕ → Bits → Outcome (Option ℕ)
looked_at nodes plan p = if_there (are_nodes nodes (passed nodes 0 (indexes plan p))) (granted (held nodes plan p))

-- ---- in a table

-- the nodes of those of the paths that are required
abbrev pub serving : List Place → List Bits → List Bits → List ℕ
serving used required [] = []
serving used required (p ∷ ps) = cond (member p required) (node_at used p ∷ serving used required ps) (serving used required ps)

-- the trail of a prefix in a table: the nodes of the required paths on its way
unfoldable pub trail_in : List ℕ → Routes → Placement → Bits → Trail
trail_in plan routes at p =
    record {
      nodes = serving at.used (required_paths plan routes) (way (offsets plan) p);
      indexes = indexes plan p;
      position = position_of plan p;
      hop = find routes p;
    }
