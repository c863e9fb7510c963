-- What a tree of nodes spells, what a walk finds in it, and the image of a placement.
use Rattle.std.specs.Prelude.{◌≡◌, ℕ, ◌^◌, ◌<◌, ◌≤◌, true, false, cond, List, [], length, is_some, Some, None, ◌≢◌}
use Rattle.bits.specs.Rows.{Bits}
use Rattle.laws.specs.Lists.{Holdable}
use Rattle.model.specs.Nodes.{Nodes, Chain, descend, held, hop_in_node, marked, reached, spelled, walk}
use Rattle.model.specs.Places.{indexes, path_to, position_of}
use Rattle.model.specs.Placements.{Placement, SoundPlacement, after_delete, after_insert, after_load, front, image, listed, node_at, opened_placement}
use Rattle.model.specs.Plans.{plan_ok}
use Rattle.model.specs.Required.{member, path_count, required, required_paths}
use Rattle.model.specs.Routes.{Routes, Ascending, find, last_hop, longest, put, without}

-- the paths that lead to a node are those that the routes require
abbrev pub ReachesRequired : Nodes → List ℕ → Routes → Type 0
ReachesRequired nodes plan routes = (q : Bits) → is_some (reached nodes plan q) ≡ member q (required_paths plan routes)

-- On any nodes, a prefix lies at its position in the node of its path, to which its child indexes lead. The tree spells each prefix with
-- the hop where it lies, in order, and nothing else. The walk finds the longest match, and visits the nodes on the address's path.
pub record TreeLaws : Type 0 where
  pub lies_at_position :
      (W : ℕ) (nodes : Nodes) (plan : List ℕ) (p : Bits) → plan_ok W plan ≡ true → length p ≤ W
      → held nodes plan p ≡ hop_in_node nodes (reached nodes plan (path_to plan p)) (position_of plan p)
  pub indexes_lead :
      (W : ℕ) (nodes : Nodes) (plan : List ℕ) (p : Bits) → plan_ok W plan ≡ true → length p ≤ W
      → descend nodes 0 (indexes plan p) ≡ reached nodes plan (path_to plan p)
  pub spells_held : (nodes : Nodes) (plan : List ℕ) (p : Bits) → find (spelled nodes plan) p ≡ held nodes plan p
  pub spells_ascending : (nodes : Nodes) (plan : List ℕ) → Ascending (spelled nodes plan)
  pub walk_longest :
      (nodes : Nodes) (plan : List ℕ) (address : Bits) → plan_ok (length address) plan ≡ true
      → (walk nodes plan address).found ≡ longest (spelled nodes plan) address
  pub walk_visits :
      (address : Bits) (nodes : Nodes) (plan : List ℕ) (routes : Routes) → plan_ok (length address) plan ≡ true → ReachesRequired nodes plan routes
      → (walk nodes plan address).visits ≡ path_count plan routes address

-- every field is one that a node memory takes: no mark at position 0 and none above 63, a count of at most 64, children below the number of
-- nodes, hops in range
pub record Takeable (nodes : Nodes) : Type 0 where
  pub no_mark : (n : ℕ) → marked (nodes.bitmap n) 0 ≡ false
  pub bitmaps : (n : ℕ) → nodes.bitmap n < 2 ^ 64
  pub counts : (n : ℕ) → nodes.count n ≤ 64
  pub children : (n i : ℕ) → nodes.child n i < nodes.size
  pub hops : (n i : ℕ) → nodes.hop n i ≤ last_hop

-- The image of a sound placement holds exactly the routes, each where it lies, so that it spells them; it reaches exactly the required
-- paths, each by its own node; its chain holds exactly the other nodes, so that none is lost; and each field is one that a node memory takes. So two lists of routes with one image are equal, and the walk on an image
-- answers what the plain list answers to a lookup.
pub record ImageLaws : Type 0 where
  pub holds :
      (W N : ℕ) (plan : List ℕ) (routes : Routes) (at : Placement) → Holdable W plan routes → SoundPlacement N plan routes at
      → (p : Bits) → held (image N plan routes at) plan p ≡ find routes p
  pub spells :
      (W N : ℕ) (plan : List ℕ) (routes : Routes) (at : Placement) → Holdable W plan routes → SoundPlacement N plan routes at
      → spelled (image N plan routes at) plan ≡ routes
  pub reaches :
      (W N : ℕ) (plan : List ℕ) (routes : Routes) (at : Placement) → Holdable W plan routes → SoundPlacement N plan routes at
      → (q : Bits) → reached (image N plan routes at) plan q ≡ cond (member q (required_paths plan routes)) (Some (node_at at.used q)) None
  pub own_nodes :
      (N : ℕ) (plan : List ℕ) (routes : Routes) (at : Placement) → SoundPlacement N plan routes at
      → (p q : Bits) → member p (required_paths plan routes) ≡ true → member q (required_paths plan routes) ≡ true
      → node_at at.used p ≡ node_at at.used q → p ≡ q
  pub chains :
      (N : ℕ) (plan : List ℕ) (routes : Routes) (at : Placement) → SoundPlacement N plan routes at
      → Chain (image N plan routes at) (front at.free) at.free
  pub chains_no_other :
      (W N : ℕ) (plan : List ℕ) (routes : Routes) (at : Placement) → Holdable W plan routes → SoundPlacement N plan routes at
      → (n : ℕ) (q : Bits) → listed n at.free ≡ true → reached (image N plan routes at) plan q ≢ Some n
  pub loses_none :
      (W N : ℕ) (plan : List ℕ) (routes : Routes) (at : Placement) → Holdable W plan routes → SoundPlacement N plan routes at
      → (n : ℕ) → n < N → listed n at.free ≡ false → (q : Bits) × (reached (image N plan routes at) plan q ≡ Some n)
  pub takeable :
      (W N : ℕ) (plan : List ℕ) (routes : Routes) (at : Placement) → Holdable W plan routes → SoundPlacement N plan routes at
      → Takeable (image N plan routes at)
  pub alone :
      (W N : ℕ) (plan : List ℕ) (routes others : Routes) (at elsewhere : Placement)
      → Holdable W plan routes → SoundPlacement N plan routes at → Holdable W plan others → SoundPlacement N plan others elsewhere
      → image N plan routes at ≡ image N plan others elsewhere → routes ≡ others
  pub looks_up :
      (N : ℕ) (plan : List ℕ) (routes : Routes) (at : Placement) (address : Bits)
      → Holdable (length address) plan routes → SoundPlacement N plan routes at
      → walk (image N plan routes at) plan address ≡ record { found = longest routes address; visits = path_count plan routes address }

-- Opening, an insert, a delete and a load leave a placement that is sound for the routes that they leave.
pub record PlacementLaws : Type 0 where
  pub opens : (N : ℕ) (plan : List ℕ) → 1 ≤ N → SoundPlacement N plan [] (opened_placement N)
  pub inserts :
      (N : ℕ) (plan : List ℕ) (routes : Routes) (at : Placement) (p : Bits) (h : ℕ)
      → SoundPlacement N plan routes at → required plan (put routes p h) ≤ N
      → SoundPlacement N plan (put routes p h) (after_insert plan p at)
  pub deletes :
      (W N : ℕ) (plan : List ℕ) (routes : Routes) (at : Placement) (p : Bits) (h : ℕ) → plan_ok W plan ≡ true
      → SoundPlacement N plan routes at → find routes p ≡ Some h
      → SoundPlacement N plan (without routes p) (after_delete plan (without routes p) p at)
  pub loads :
      (N : ℕ) (plan : List ℕ) (routes : Routes) → required plan routes ≤ N
      → SoundPlacement N plan routes (after_load N plan routes)
