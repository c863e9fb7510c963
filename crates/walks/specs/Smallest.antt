-- The smallest route of a tree, and the smallest above a prefix, on any memory. In each node stand, in order, hops and children; the search takes
-- the first of them, or the first above, and where that is a child it goes on there. It does not come back where nothing is below: in a table something is.
use Rattle.std.specs.Prelude.{ℕ, ◌||◌, cond, List, [], ◌∷◌, ◌++◌, length, take, drop, Some, None, Option, ◌==◌, nat_lt}
use Rattle.bits.specs.Rows.{Bits, number}
use Rattle.model.specs.Nodes.{Nodes, entry, hop_at, in_order}
use Rattle.model.specs.Outcomes.{Outcome, granted, refused}
use Rattle.model.specs.Places.{position}
use Rattle.model.specs.Routes.{Route, Routes, above, route, smallest}
use Rattle.nodes.specs.Fields.{is_node}
use Rattle.walks.specs.Walks.{if_there}

-- behind all bits of its stride a node has a child, where there is one and a stride to come
abbrev pub child_behind : Nodes → List ℕ → ℕ → Bits → Routes
child_behind nodes [] n bs = []
child_behind nodes (t ∷ ts) n bs =
    let c = nodes.child n (number bs) in
    cond (c == 0) [] (entry bs (Some c))

-- what stands in a node, in order: behind fewer than s bits the hop of a marked position, behind s bits the number of a child
abbrev pub standing : Nodes → List ℕ → ℕ → ℕ → Routes
standing nodes ss n s = in_order (λ bs. entry bs (hop_at nodes n (position bs))) (child_behind nodes ss n) s []

-- what stands there is the hop of a route, or a child below which the search goes on
abbrev pub follow_up : (ℕ → Bits → Outcome (Option Route)) → ℕ → Bits → Option Route → Outcome (Option Route)
follow_up below s path None = granted None
follow_up below s path (Some e) =
    cond (nat_lt (length e.prefix) s) (granted (Some (route (path ++ e.prefix) e.hop))) (below e.hop (path ++ e.prefix))

-- from a node on, to which a path leads
abbrev pub smallest_from : Nodes → List ℕ → ℕ → Bits → Outcome (Option Route)
smallest_from nodes [] n path = granted None
smallest_from nodes (s ∷ ss) n path =
    if_there (is_node nodes n) (follow_up (smallest_from nodes ss) s path (smallest (standing nodes ss n s)))

-- the smallest route
unfoldable pub smallest_of : Nodes → List ℕ → Outcome (Option Route)
smallest_of nodes plan = smallest_from nodes plan 0 []

-- goes on where nothing was found
abbrev pub unless_found : Outcome (Option Route) → Outcome (Option Route) → Outcome (Option Route)
unless_found (granted None) rest = rest
unless_found (granted (Some r)) rest = granted (Some r)
unless_found (refused number layer place) rest = refused number layer place

-- from a node on, to which a path leads, what is above the bits behind that path: below the child on their way, or else what comes next in the node
abbrev pub above_from : Nodes → List ℕ → ℕ → Bits → Bits → Outcome (Option Route)
above_from nodes [] n path bs = granted None
above_from nodes (s ∷ ss) n path bs =
    let x = take s bs in
    let c = nodes.child n (number x) in
    let below = above_from nodes ss c (path ++ x) (drop s bs) in
    let here = follow_up (smallest_from nodes ss) s path (above (standing nodes ss n s) x) in
    if_there (is_node nodes n) (unless_found (cond (nat_lt (length bs) s || c == 0) (granted None) below) here)

-- the smallest route above a prefix
unfoldable pub above_of : Nodes → List ℕ → Bits → Outcome (Option Route)
above_of nodes plan p = above_from nodes plan 0 [] p
