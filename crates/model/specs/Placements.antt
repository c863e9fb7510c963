-- Which node serves which path, and the chain of the free nodes: a placement. With the plan and the routes it settles every field of
-- every node, their image.
use Rattle.std.specs.Prelude.{◌≡◌, ℕ, zero, suc, ◌+◌, ◌-◌, ◌^◌, Bool, false, cond, ◌&&◌, ◌||◌, List, [], ◌∷◌, ◌++◌, length, drop, Some, None, Option, ◌==◌, nat_lt}
use Rattle.bits.specs.Rows.{Bits, number, row}
use Rattle.bits.specs.Order.{begins, same}
use Rattle.model.specs.Nodes.{Nodes}
use Rattle.model.specs.Places.{position}
use Rattle.model.specs.Plans.{offsets}
use Rattle.model.specs.Required.{Single, member, required_paths, way}
use Rattle.model.specs.Routes.{Routes}

pub record Place : Type 0 where
  pub path : Bits
  pub node : ℕ

-- the required paths with their nodes, and the free nodes from the front of the chain on
pub record Placement : Type 0 where
  pub used : List Place
  pub free : List ℕ

-- so many numbers, from `first` on
abbrev pub from : ℕ → ℕ → List ℕ
from first zero = []
from first (suc count) = first ∷ from (suc first) count

-- a newly opened table of N nodes: the root is node 0, and nodes 1 to N - 1 are chained in ascending order
unfoldable pub opened_placement : ℕ → Placement
opened_placement N = record { used = record { path = []; node = 0 } ∷ []; free = from 1 (N - 1) }

-- the node of a path, 0 for none
abbrev pub node_at : List Place → Bits → ℕ
node_at [] p = 0
node_at (x ∷ xs) p = cond (same p x.path) x.node (node_at xs p)

-- the path of a node in use
abbrev pub path_at : List Place → ℕ → Option Bits
path_at [] n = None
path_at (x ∷ xs) n = cond (n == x.node) (Some x.path) (path_at xs n)

abbrev pub paths : List Place → List Bits
paths [] = []
paths (x ∷ xs) = x.path ∷ paths xs

abbrev pub nodes_of : List Place → List ℕ
nodes_of [] = []
nodes_of (x ∷ xs) = x.node ∷ nodes_of xs

abbrev pub without_path : List Place → Bits → List Place
without_path [] p = []
without_path (x ∷ xs) p = cond (same p x.path) (without_path xs p) (x ∷ without_path xs p)

-- a path gets the node at the front of the chain
abbrev pub taken : Bits → List Place → List ℕ → Placement
taken p used [] = record { used = used; free = [] }
taken p used (n ∷ free) = record { used = record { path = p; node = n } ∷ used; free = free }

-- each of the paths that has no node gets one, in their order
abbrev pub take_for : List Bits → Placement → Placement
take_for [] placement = placement
take_for (p ∷ ps) placement =
    cond (member p (paths placement.used)) (take_for ps placement) (take_for ps (taken p placement.used placement.free))

-- the node of each of the paths that is not kept goes to the front of the chain, that of the last path first
abbrev pub return_all : (kept : List Bits) → List Bits → Placement → Placement
return_all kept [] placement = placement
return_all kept (p ∷ ps) placement =
    let then = return_all kept ps placement in
    cond (member p kept) then (record { used = without_path then.used p; free = node_at then.used p ∷ then.free })

-- after a prefix was put in: newly required paths take nodes, the one nearest the root first
unfoldable pub after_insert : List ℕ → Bits → Placement → Placement
after_insert plan p placement = take_for (way (offsets plan) p) placement

-- after a prefix was removed, which left these routes: the nodes of paths no longer required are returned, the deepest first
unfoldable pub after_delete : List ℕ → Routes → Bits → Placement → Placement
after_delete plan routes p placement = return_all (required_paths plan routes) (way (offsets plan) p) placement

-- after a load: opening, then inserting the routes in their order
abbrev pub after_inserts : List ℕ → Routes → Placement → Placement
after_inserts plan [] placement = placement
after_inserts plan (r ∷ rs) placement = after_inserts plan rs (after_insert plan r.prefix placement)

unfoldable pub after_load : ℕ → List ℕ → Routes → Placement
after_load N plan routes = after_inserts plan routes (opened_placement N)

-- the stride at an offset
abbrev pub stride_from : ℕ → List ℕ → ℕ → ℕ
stride_from o [] at = 0
stride_from o (s ∷ ss) at = cond (at == o) s (stride_from (o + s) ss at)

-- a prefix lies in the node of a path with a stride of s bits
abbrev pub lies_in : Bits → ℕ → Bits → Bool
lies_in path s p = begins path p && nat_lt (length p) (length path + s)

-- and there at a position
abbrev pub lies_at : Bits → ℕ → ℕ → Bits → Bool
lies_at path s i p = lies_in path s p && i == position (drop (length path) p)

-- one of the routes lies at a position of the node
abbrev pub taken_at : Bits → ℕ → Routes → ℕ → Bool
taken_at path s [] i = false
taken_at path s (r ∷ rs) i = lies_at path s i r.prefix || taken_at path s rs i

-- so many positions, from the highest down to 0
abbrev pub marks : (ℕ → Bool) → ℕ → Bits
marks at zero = []
marks at (suc i) = at i ∷ marks at i

-- the bitmap of a node: bit i is set where a route lies at position i
abbrev pub bitmap_of : Bits → ℕ → Routes → ℕ
bitmap_of path s routes = number (marks (taken_at path s routes) 64)

-- the hop of the route that lies at a position, 0 for none
abbrev pub hop_in : Bits → ℕ → Routes → ℕ → ℕ
hop_in path s [] i = 0
hop_in path s (r ∷ rs) i = cond (lies_at path s i r.prefix) r.hop (hop_in path s rs i)

-- child i is the node of the path that goes on with the s bits of i, 0 where that has none
abbrev pub child_of : List Place → Bits → ℕ → ℕ → ℕ
child_of used path s i = cond (nat_lt i (2 ^ s)) (node_at used (path ++ row s i)) 0

-- how many of so many children are other than 0
abbrev pub count_of : (ℕ → ℕ) → ℕ → ℕ
count_of child zero = 0
count_of child (suc i) = cond (child i == 0) (count_of child i) (suc (count_of child i))

-- the front of the chain, 0 where it is empty
abbrev pub front : List ℕ → ℕ
front [] = 0
front (n ∷ ns) = n

-- what follows a node in the chain, 0 behind the last
abbrev pub link_in : List ℕ → ℕ → ℕ
link_in [] n = 0
link_in (m ∷ ms) n = cond (n == m) (front ms) (link_in ms n)

module _ {A : Type 0} where
  -- a field of a node: by its path and stride where it is in use, and otherwise as a free node has it
  abbrev pub field : List ℕ → Option Bits → (Bits → ℕ → A) → A → A
  field plan None in_use free = free
  field plan (Some path) in_use free = in_use path (stride_from 0 plan (length path))

-- Every field of N nodes. A node in use has its marks, hops, children and their number; a free one is 0 but for its link in the chain.
unfoldable pub image : ℕ → List ℕ → Routes → Placement → Nodes
image N plan routes placement =
    let used = placement.used in
    record {
      size = N;
      bitmap = λ n. field plan (path_at used n) (λ path s. bitmap_of path s routes) 0;
      count = λ n. field plan (path_at used n) (λ path s. count_of (child_of used path s) 64) 0;
      child = λ n i. field plan (path_at used n) (λ path s. child_of used path s i) (cond (i == 0) (link_in placement.free n) 0);
      hop = λ n i. field plan (path_at used n) (λ path s. hop_in path s routes i) 0;
    }

abbrev pub listed : ℕ → List ℕ → Bool
listed n [] = false
listed n (m ∷ ms) = n == m || listed n ms

-- no number stands twice
abbrev pub Once : List ℕ → Type 0
Once [] = Unit {0}
Once (n ∷ ns) = (listed n ns ≡ false) × Once ns

-- A placement is sound for a plan and routes where the root is node 0, the paths with a node are those that the routes require, each once,
-- and every node below N, and no other, is either the node of a path or on the chain, once.
pub record SoundPlacement (N : ℕ) (plan : List ℕ) (routes : Routes) (placement : Placement) : Type 0 where
  pub root : node_at placement.used [] ≡ 0
  pub served : (path : Bits) → member path (paths placement.used) ≡ member path (required_paths plan routes)
  pub single : Single (paths placement.used)
  pub each_node : (n : ℕ) → listed n (nodes_of placement.used ++ placement.free) ≡ nat_lt n N
  pub once : Once (nodes_of placement.used ++ placement.free)
