-- The steps of an insert and of a delete along the way of a prefix, and what each leaves of the nodes.
use Rattle.std.specs.Prelude.{◌≡◌, ℕ, suc, ◌-◌, ◌<◌, ◌≤◌, Bool, true, false, ◌&&◌, cond, List, length, take, map, is_some, ◌==◌, nat_lt}
use Rattle.bits.specs.Rows.{Bits}
use Rattle.model.specs.Nodes.{Nodes}
use Rattle.laws.specs.Lists.{Holdable}
use Rattle.model.specs.Places.{indexes}
use Rattle.model.specs.Placements.{Placement, SoundPlacement, after_delete, after_insert, node_at}
use Rattle.model.specs.Plans.{offset, offsets}
use Rattle.model.specs.Required.{member, required, required_paths, way}
use Rattle.model.specs.Routes.{Routes, find, put}
use Rattle.masks.specs.Marks.{with_mark, without_mark}
use Rattle.nodes.specs.Fields.{with_bitmap, with_child, with_count, with_hop}

-- the k-th path on the way of a prefix: its first bits, as many as the offset of the k-th stride
abbrev pub path_of : List ℕ → Bits → ℕ → Bits
path_of plan p k = take (offset plan k) p

-- ---- taking and returning nodes

-- node f is taken from the front of the chain, its link cleared, and set as child i of node n, whose count rises
abbrev pub taken_node : Nodes → ℕ → ℕ → ℕ → Nodes
taken_node nodes f n i =
    let unlinked = with_child nodes f 0 0 in
    let set = with_child unlinked n i f in
    with_count set n (suc (nodes.count n))

-- node m, child i of node n, is returned to the front of the chain, which was f; the count of node n is lowered
abbrev pub returned_node : Nodes → ℕ → ℕ → ℕ → ℕ → Nodes
returned_node nodes m n i f =
    let gone = with_child nodes n i 0 in
    let linked = with_child gone m 0 f in
    with_count linked n (nodes.count n - 1)

-- ---- marking and unmarking

-- position j of node n is marked, with a hop
abbrev pub marked_node : Nodes → ℕ → ℕ → ℕ → Nodes
marked_node nodes n j h =
    let m = with_bitmap nodes n (with_mark (nodes.bitmap n) j) in
    with_hop m n j h

-- and unmarked, its hop cleared
abbrev pub unmarked_node : Nodes → ℕ → ℕ → Nodes
unmarked_node nodes n j =
    let m = with_bitmap nodes n (without_mark (nodes.bitmap n) j) in
    with_hop m n j 0

-- ---- placements on the way

-- as far as the k-th path an insert has taken nodes
abbrev pub insert_at : List ℕ → Bits → Placement → ℕ → Placement
insert_at plan p at k = after_insert plan (path_of plan p k) at

-- as far down as the k-th path a delete, which left these routes, has not yet returned nodes
abbrev pub delete_at : List ℕ → Routes → Bits → Placement → ℕ → Placement
delete_at plan routes p at k = after_delete plan (put routes (path_of plan p k) 0) p at

-- ---- opening

-- N nodes whose fields are all 0, but that nodes 1 to N - 1 are chained in ascending order
abbrev pub chained : ℕ → Nodes
chained N = record {
  size = N;
  bitmap = λ n. 0;
  count = λ n. 0;
  child = λ n i. cond (i == 0 && (nat_lt 0 n && nat_lt (suc n) N)) (suc n) 0;
  hop = λ n i. 0;
}

-- ---- on the way of a prefix

-- the k-th path on the way of a prefix is one that some routes require
abbrev pub served : List ℕ → Routes → Bits → ℕ → Bool
served plan routes p k = member (path_of plan p k) (required_paths plan routes)

-- the paths on the way of a prefix that some routes require are those up to the k-th
pub record ServedTo (plan : List ℕ) (routes : Routes) (p : Bits) (k : ℕ) : Type 0 where
  pub within : k ≤ length (indexes plan p)
  pub there : served plan routes p k ≡ true
  pub no_more : k < length (indexes plan p) → served plan routes p (suc k) ≡ false

-- a table of N nodes holds some routes, by a placement
pub record Holds (W N : ℕ) (plan : List ℕ) (routes : Routes) (at : Placement) : Type 0 where
  pub can : Holdable W plan routes
  pub sound : SoundPlacement N plan routes at

-- it has the nodes that a prefix more would require
pub record CanInsert (W N : ℕ) (plan : List ℕ) (routes : Routes) (at : Placement) (p : Bits) : Type 0 where
  pub holds : Holds W N plan routes at
  pub short : length p ≤ W
  pub room : required plan (put routes p 0) ≤ N

-- it holds a prefix that is to go
pub record CanDelete (W N : ℕ) (plan : List ℕ) (routes : Routes) (at : Placement) (p : Bits) : Type 0 where
  pub holds : Holds W N plan routes at
  pub held : is_some (find routes p) ≡ true

-- the nodes of all paths on the way of a prefix, from the root down
abbrev pub way_nodes : List ℕ → Bits → Placement → List ℕ
way_nodes plan p at = map (node_at at.used) (way (offsets plan) p)
