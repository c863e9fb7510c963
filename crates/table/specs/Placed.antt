-- The placement that the rules give after a call: newly required paths take nodes from the front of the chain, the one nearest the root first, and
-- the nodes of paths no longer required go back to it, the deepest first.
use Rattle.std.specs.Prelude.{ℕ, cond, List, [], ◌∷◌}
use Rattle.model.specs.Calls.{Call, Plain, after, counts, delete, exact, first, holding, insert, load, lookup, next, open_with, perform, shut, write}
use Rattle.model.specs.Outcomes.{is_granted}
use Rattle.model.specs.Placements.{Placement, after_delete, after_insert, after_load, opened_placement}
use Rattle.model.specs.Routes.{prefix_of, without}

-- after a load that left this list: opening, and inserting its routes in order
abbrev pub loaded_placement : ℕ → Plain → Placement → Placement
loaded_placement N shut at = at
loaded_placement N (holding plan routes) at = after_load N plan routes

-- after a call that is granted
abbrev pub granted_placement : ℕ → ℕ → Plain → Call → Placement → Placement
granted_placement W N plain (open_with strides) at = opened_placement N
granted_placement W N shut (insert address len hop) at = at
granted_placement W N (holding plan routes) (insert address len hop) at = after_insert plan (prefix_of address len) at
granted_placement W N shut (delete address len) at = at
granted_placement W N (holding plan routes) (delete address len) at = after_delete plan (without routes (prefix_of address len)) (prefix_of address len) at
granted_placement W N plain (lookup address) at = at
granted_placement W N plain (exact address len) at = at
granted_placement W N plain first at = at
granted_placement W N plain (next address len) at = at
granted_placement W N plain counts at = at
granted_placement W N plain (write number output) at = at
granted_placement W N plain (load message) at = loaded_placement N (after W N plain (load message)) at

-- a refused call leaves it
abbrev pub placed : ℕ → ℕ → Plain → Placement → Call → Placement
placed W N plain at call = cond (is_granted (perform W N plain call)) (granted_placement W N plain call at) at

-- after a list of calls, refused ones included
abbrev pub placed_all : ℕ → ℕ → Plain → Placement → List Call → Placement
placed_all W N plain at [] = at
placed_all W N plain at (call ∷ calls) = placed_all W N (after W N plain call) (placed W N plain at call) calls
