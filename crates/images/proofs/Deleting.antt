-- What a delete goes through: the nodes of all paths on the way of a held prefix, the position that is unmarked in the last of them, and the routes
-- that are left.
use Rattle.std.proofs.Common.{◌≡◌, ℕ, zero, suc, ◌+◌, ◌-◌, ◌<◌, ◌≤◌, true, List, [], ◌∷◌, length, get_or, map, is_some, Some, None, lt-ltb, refl, sym, ap, ◌∙◌, subst, not-suc-le-zero, le_of_suc-le-suc, arith}
use Rattle.std.proofs.lemmas.Bool.{le-leb, or_right}
use Rattle.bits.specs.Rows.{Bits}
use Rattle.bits.specs.Order.{same}
use Rattle.bits.proofs.Orders.{less, equal, greater, compared, holds, fails, decided, order_equal, same_self}
use Rattle.laws.specs.Lists.{Holdable}
use Rattle.laws.proofs.Histories.{without_ranged}
use Rattle.laws.proofs.Placements.{placement_laws}
use Rattle.laws.proofs.Ranges.{node_below}
use Rattle.laws.proofs.Required.{no_longer}
use Rattle.laws.proofs.Routes.{find_below, without_ascends}
use Rattle.laws.proofs.Ways.{held_short, way_required}
use Rattle.nodes.specs.Fields.{is_hop}
use Rattle.model.specs.Places.{level, path_to, position_of}
use Rattle.model.specs.Placements.{Place, Placement, SoundPlacement, after_delete, image, node_at}
use Rattle.model.specs.Plans.{offsets, plan_ok}
use Rattle.model.specs.Required.{member, required, required_paths, way}
use Rattle.model.specs.Routes.{Above, Ascending, Routes, find, without}
use Rattle.images.specs.Steps.{path_of, unmarked_node, way_nodes}
use Rattle.images.proofs.Climbs.{down, way_down}
use Rattle.images.proofs.MarkedNodes.{unmarked_image}
use Rattle.images.proofs.Strides.{position_within}
use Rattle.images.proofs.Ways.{on_way}
use Rattle.walks.specs.Trails.{serving}

-- ---- the nodes of a row of paths

row_size : (g : Bits → ℕ) (f : ℕ → Bits) (a c : ℕ) → length (map g (down f a c)) ≡ c
row_size g f a zero = refl
row_size g f a (suc c) = ap suc (row_size g f (suc a) c)

row_item : (g : Bits → ℕ) (f : ℕ → Bits) (a c j : ℕ) → j < c → get_or (map g (down f a c)) j 0 ≡ g (f (a + j))
row_item g f a zero j h = absurd (not-suc-le-zero h)
row_item g f a (suc c) zero h = ap (λ k. g (f k)) (let e : a ≡ a + 0 = omega arith in e)
row_item g f a (suc c) (suc j) h =
    row_item g f (suc a) c j (le_of_suc-le-suc h) ∙ ap (λ k. g (f k)) (let e : suc a + j ≡ a + suc j = omega arith in e)

-- the nodes of all paths on a way
module _ (W : ℕ) (plan : List ℕ) (ok : plan_ok W plan ≡ true) (p : Bits) (short : length p ≤ W) (at : Placement) where
  abbrev last : ℕ
  last = level plan (length p)

  way_row : way_nodes plan p at ≡ map (node_at at.used) (down (path_of plan p) 0 (suc last))
  way_row = ap (map (node_at at.used)) (way_down W plan ok p short)

  pub way_size : length (way_nodes plan p at) ≡ suc last
  way_size = ap length way_row ∙ row_size (node_at at.used) (path_of plan p) 0 (suc last)

  pub way_item : (j : ℕ) → j ≤ last → get_or (way_nodes plan p at) j 0 ≡ node_at at.used (path_of plan p j)
  way_item j h =
      let start : 0 + j ≡ j = omega arith in
      ap (λ (l : List ℕ). get_or l j 0) way_row
      ∙ row_item (node_at at.used) (path_of plan p) 0 (suc last) j (omega arith)
      ∙ ap (λ k. node_at at.used (path_of plan p k)) start

-- where all of the paths are required, all have nodes
serving_all : (used : List Place) (required ps : List Bits) → ((q : Bits) → member q ps ≡ true → member q required ≡ true)
    → serving used required ps ≡ map (node_at used) ps
serving_all used required [] h = refl
serving_all used required (p ∷ ps) h =
    let here : member p required ≡ true = h p (simp (same_self p)) in
    simp here (ap (λ (ns : List ℕ). node_at used p ∷ ns) (serving_all used required ps (λ q m. h q (or_right (same q p) (member q ps) m))))

-- ---- the routes without one of them

-- a prefix that is not held takes none with it
none_gone : (rs : Routes) (p : Bits) → find rs p ≡ None → length (without rs p) ≡ length rs
none_gone [] p e = refl
none_gone (r ∷ rs) p e = elim (decided (same p r.prefix)) [
  | holds k ↦ (let wrong : Some r.hop ≡ None = simp k at e in cc)
  | fails k ↦ simp k (ap suc (none_gone rs p (simp k at e)))
]

-- one that is held takes one
pub length_without : (rs : Routes) (p : Bits) (h : ℕ) → Ascending rs → find rs p ≡ Some h → length (without rs p) + 1 ≡ length rs
length_without [] p h s e = cc
length_without (r ∷ rs) p h s e = elim (compared p r.prefix) [
  | less k ↦ simp k (let rest = length_without rs p h s.1 (simp k at e) in omega arith)
  | equal k ↦
      (let above : Above p rs = subst (λ (x : Bits). Above x rs) (sym (order_equal p r.prefix k)) s.0 in
      let none = find_below rs p above s.1 in
      let all = none_gone rs p none in
      simp k (omega arith))
  | greater k ↦ simp k (let rest = length_without rs p h s.1 (simp k at e) in omega arith)
]

module _ (W N : ℕ) (plan : List ℕ) (routes : Routes) (at : Placement) (p : Bits) (h : ℕ)
    (can : Holdable W plan routes) (sound : SoundPlacement N plan routes at) (held : find routes p ≡ Some h) where
  abbrev left : Routes
  left = without routes p

  abbrev later : Placement
  later = after_delete plan left p at

  abbrev node : ℕ
  node = node_at at.used (path_to plan p)

  short : length p ≤ W
  short = held_short W routes p can.ranged (ap is_some held)

  pub left_holdable : Holdable W plan left
  left_holdable = record { planned = can.planned; ascends = without_ascends routes p can.ascends; ranged = without_ranged W routes p can.ranged }

  pub left_sound : SoundPlacement N plan left later
  left_sound = placement_laws.deletes W N plan routes at p h can.planned sound held

  -- the nodes that are no longer required are some of those that were
  pub left_requires : required plan routes - (required plan routes - required plan left) ≡ required plan left
  left_requires = let more = no_longer plan routes p h can.ascends held in omega arith

  -- all paths on the way have nodes, the last that of the prefix's own
  pub way_served : serving at.used (required_paths plan routes) (way (offsets plan) p) ≡ way_nodes plan p at
  way_served = serving_all at.used (required_paths plan routes) (way (offsets plan) p) (λ q m. way_required plan routes p q (ap is_some held) m)

  pub way_last : get_or (way_nodes plan p at) (length (way_nodes plan p at) - 1) 0 ≡ node
  way_last =
      let size = way_size W plan can.planned p short at in
      let end : length (way_nodes plan p at) - 1 ≡ level plan (length p) = omega arith in
      ap (λ k. get_or (way_nodes plan p at) k 0) end ∙ way_item W plan can.planned p short at (level plan (length p)) (omega arith)

  -- its position is one of that node, and is unmarked there
  pub unmarks_there : is_hop (image N plan routes at) node (position_of plan p) ≡ true
  unfolding image
  unmarks_there =
      let below = node_below W N plan routes at can sound (path_to plan p) in
      let within = position_within W plan p can.planned short in
      simp (lt-ltb node N below, le-leb 1 (position_of plan p) within.0, lt-ltb (position_of plan p) 64 within.1)

  pub unmarks : image N plan left at ≡ unmarked_node (image N plan routes at) node (position_of plan p)
  unmarks =
      unmarked_image W N plan routes at sound can.planned p short
      (way_required plan routes p (path_to plan p) (ap is_some held) (on_way W plan can.planned p short)) routes h
