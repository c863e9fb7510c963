-- What an insert leaves, once the way of its prefix has nodes: the position is marked there, and the table holds the route.
use Rattle.std.proofs.Common.{◌≡◌, ℕ, ◌+◌, ◌≤◌, true, false, cond, List, [], ◌∷◌, ◌++◌, length, is_some, Some, None, Option, lit<, le-leb, lt-ltb, Less, refl, ap, ◌∙◌, length-append, arith}
use Rattle.bits.specs.Rows.{Bits}
use Rattle.bits.specs.Order.{order}
use Rattle.bits.proofs.Orders.{less, equal, greater, compared, order_chains}
use Rattle.laws.specs.Lists.{Holdable}
use Rattle.laws.proofs.Histories.{put_ranged}
use Rattle.laws.proofs.Placements.{placement_laws}
use Rattle.laws.proofs.Positions.{marked_at}
use Rattle.laws.proofs.Ranges.{node_below, none_at_zero}
use Rattle.laws.proofs.Routes.{find_below, find_put, put_ascends}
use Rattle.laws.proofs.Listed.{numbers_length}
use Rattle.laws.proofs.Singles.{required_single, same_length}
use Rattle.laws.proofs.Taking.{nodes_length, proper}
use Rattle.laws.proofs.Ways.{way_required}
use Rattle.nodes.specs.Fields.{is_hop}
use Rattle.model.specs.Nodes.{marked}
use Rattle.model.specs.Places.{path_to, position_of}
use Rattle.model.specs.Placements.{Placement, SoundPlacement, after_insert, bitmap_of, field, image, node_at, nodes_of, path_at, paths, stride_from, taken_at}
use Rattle.model.specs.Required.{member, required, required_paths}
use Rattle.model.specs.Routes.{Above, Ascending, Routes, find, last_hop, put}
use Rattle.images.specs.Steps.{marked_node}
use Rattle.images.proofs.MarkedNodes.{marked_image}
use Rattle.images.proofs.Ways.{on_way}
use Rattle.images.proofs.Strides.{position_within}

-- how many routes there are after one more
pub length_put : (rs : Routes) (p : Bits) (h : ℕ) → Ascending rs → length (put rs p h) ≡ length rs + cond (is_some (find rs p)) 0 1
length_put [] p h s = refl
length_put (r ∷ rs) p h s = elim (compared p r.prefix) [
  | less e ↦
      (let none : find rs p ≡ None = find_below rs p (before_all rs s e) s.1 in
      simp (e, none) (omega arith))
  | equal e ↦ simp e (omega arith)
  | greater e ↦ simp e (let m = length_put rs p h s.1 in omega arith)
]
  where
    before_all : (rs : Routes) → Ascending (r ∷ rs) → order p r.prefix ≡ Less → Above p rs
    before_all [] s e = tt
    before_all (q ∷ qs) s e = order_chains p r.prefix q.prefix e s.0

-- position 0 is never marked
pub no_mark : (N : ℕ) (plan : List ℕ) (routes : Routes) (at : Placement) (n : ℕ) → marked ((image N plan routes at).bitmap n) 0 ≡ false
unfolding image marked
no_mark N plan routes at n = by (path_at at.used n)
  where
    by : (o : Option Bits) → marked (field plan o (λ path s. bitmap_of path s routes) 0) 0 ≡ false
    by None = refl
    by (Some path) = marked_at (taken_at path (stride_from 0 plan (length path)) routes) 64 0 (lit< tt) ∙ none_at_zero path (stride_from 0 plan (length path)) routes

-- a table has a node for each path that its routes require
pub needs_within : (N : ℕ) (plan : List ℕ) (routes : Routes) (at : Placement) → SoundPlacement N plan routes at → required plan routes ≤ N
unfolding required
needs_within N plan routes at sound =
    let is = proper N plan routes at sound in
    let all = numbers_length N (nodes_of at.used ++ at.free) is.all in
    let joined = length-append (nodes_of at.used) at.free in
    let same_size = nodes_length at.used in
    let paths_are = same_length (paths at.used) (required_paths plan routes) sound.single (required_single plan routes) sound.served in
    omega arith

-- the routes with one more, where the nodes suffice for them
module _ (W N : ℕ) (plan : List ℕ) (routes : Routes) (at : Placement) (p : Bits) (h : ℕ) (can : Holdable W plan routes)
    (sound : SoundPlacement N plan routes at) (short : length p ≤ W) (small : h ≤ last_hop) (room : required plan (put routes p h) ≤ N) where
  abbrev then : Routes
  then = put routes p h

  abbrev later : Placement
  later = after_insert plan p at

  abbrev node : ℕ
  node = node_at later.used (path_to plan p)

  pub put_holdable : Holdable W plan then
  put_holdable = record { planned = can.planned; ascends = put_ascends routes p h can.ascends; ranged = put_ranged W routes p h can.ranged short small }

  pub put_sound : SoundPlacement N plan then later
  put_sound = placement_laws.inserts N plan routes at p h sound room

  path_served : member (path_to plan p) (required_paths plan then) ≡ true
  path_served = way_required plan then p (path_to plan p) (ap is_some (find_put routes p h)) (on_way W plan can.planned p short)

  pub put_image : image N plan then later ≡ marked_node (image N plan routes later) node (position_of plan p) h
  put_image = marked_image W N plan then later put_sound can.planned p short path_served routes h

  pub place_there : is_hop (image N plan routes later) node (position_of plan p) ≡ true
  unfolding image
  place_there =
      let below = node_below W N plan then later put_holdable put_sound (path_to plan p) in
      let within = position_within W plan p can.planned short in
      simp (lt-ltb node N below, le-leb 1 (position_of plan p) within.0, lt-ltb (position_of plan p) 64 within.1)
