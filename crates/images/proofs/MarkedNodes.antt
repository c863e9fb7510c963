-- A route put in or taken out is one position of one node marked or unmarked: the image differs in no other field.
use Rattle.std.proofs.Common.{◌≡◌, ℕ, ◌<◌, ◌≤◌, Bool, true, false, cond, ◌&&◌, ◌||◌, eqb, List, [], ◌∷◌, length, drop, Some, None, Option, refl, sym, ap, ◌∙◌, ap₂, arith}
use Rattle.std.proofs.lemmas.Bool.{eqb-true, eqb-false}
use Rattle.bits.specs.Rows.{Bits}
use Rattle.bits.specs.Order.{same}
use Rattle.bits.proofs.Orders.{holds, fails, decided, same_eq, same_self}
use Rattle.laws.proofs.Served.{path_of}
use Rattle.model.specs.Nodes.{Nodes}
use Rattle.model.specs.Places.{path_to, position, position_of}
use Rattle.model.specs.Placements.{Place, Placement, SoundPlacement, bitmap_of, field, hop_in, image, lies_in, node_at, path_at, paths, stride_from}
use Rattle.model.specs.Plans.{plan_ok}
use Rattle.model.specs.Required.{Single, member, required_paths}
use Rattle.model.specs.Routes.{Routes, put, without}
use Rattle.images.specs.Steps.{marked_node, unmarked_node}
use Rattle.masks.specs.Marks.{with_mark, without_mark}
use Rattle.images.proofs.Marking.{bitmap_put, bitmap_put_other, bitmap_without, bitmap_without_other, hop_put_other, hop_put_there, hop_without_other, hop_without_there}
use Rattle.images.proofs.Strides.{lies_one, lies_there, path_length, position_within}

-- ---- the node of a path, and the path of a node

-- the path of a node is one in use
pub path_member : (used : List Place) (n : ℕ) (x : Bits) → path_at used n ≡ Some x → member x (paths used) ≡ true
path_member [] n x e = cc
path_member (y ∷ ys) n x e = elim (decided (eqb n y.node)) [
  | holds k ↦ (let here : Some y.path ≡ Some x = simp k at e in let is : y.path ≡ x = cc in simp (← is, same_self y.path))
  | fails k ↦ by (same x y.path) (path_member ys n x (simp k at e))
]
  where
    by : (t : Bool) → member x (paths ys) ≡ true → (t || member x (paths ys)) ≡ true
    by true h = refl
    by false h = h

pub node_of_path : (used : List Place) (n : ℕ) (x : Bits) → Single (paths used) → path_at used n ≡ Some x → node_at used x ≡ n
node_of_path [] n x single e = cc
node_of_path (y ∷ ys) n x single e = elim (decided (eqb n y.node)) [
  | holds k ↦
      (let here : Some y.path ≡ Some x = simp k at e in
      let is : y.path ≡ x = cc in
      simp (← is, same_self y.path) (sym (eqb-true n y.node k)))
  | fails k ↦
      (let later : path_at ys n ≡ Some x = simp k at e in
      elim (decided (same x y.path)) [
        | holds s ↦ (let wrong = sym single.0 ∙ ap (λ (z : Bits). member z (paths ys)) (sym (same_eq x y.path s)) ∙ path_member ys n x later in cc)
        | fails s ↦ simp s (node_of_path ys n x single.1 later)
      ])
]

-- ---- one field of all nodes, of which one is changed

module _ (W N : ℕ) (plan : List ℕ) (over : Routes) (at : Placement) (sound : SoundPlacement N plan over at) (ok : plan_ok W plan ≡ true)
    (p : Bits) (short : length p ≤ W) (served : member (path_to plan p) (required_paths plan over) ≡ true) where
  abbrev path : Bits
  path = path_to plan p

  abbrev node : ℕ
  node = node_at at.used path

  abbrev place : ℕ
  place = position_of plan p

  own : path_at at.used node ≡ Some path
  own = path_of N plan over at sound path (sound.served path ∙ served)

  -- the path of another node is another
  other_path : (n : ℕ) (x : Bits) → eqb n node ≡ false → path_at at.used n ≡ Some x → same x path ≡ false
  other_path n x e there = elim (decided (same x path)) [
    | holds s ↦
        (let is : node ≡ n = ap (node_at at.used) (sym (same_eq x path s)) ∙ node_of_path at.used n x sound.single there in
        absurd (eqb-false n node e (sym is)))
    | fails s ↦ s
  ]

  -- a field that the routes settle, before and after, where only the node of the prefix sees the difference
  one_field : (was now : Bits → ℕ → ℕ) (v : ℕ) → now path (stride_from 0 plan (length path)) ≡ v
      → ((x : Bits) → same x path ≡ false → now x (stride_from 0 plan (length x)) ≡ was x (stride_from 0 plan (length x)))
      → (n : ℕ) → field plan (path_at at.used n) now 0 ≡ cond (eqb n node) v (field plan (path_at at.used n) was 0)
  one_field was now v here others n = elim (decided (eqb n node)) [
    | holds e ↦ simp e (ap (λ (k : ℕ). field plan (path_at at.used k) now 0) (eqb-true n node e) ∙ simp own here)
    | fails e ↦ simp e (by (path_at at.used n) refl e)
  ]
    where
      by : (o : Option Bits) → path_at at.used n ≡ o → eqb n node ≡ false → field plan o now 0 ≡ field plan o was 0
      by None there e = refl
      by (Some x) there e = others x (other_path n x e there)

  low : place < 64
  low = (position_within W plan p ok short).1

  outside : (x : Bits) → same x path ≡ false → lies_in x (stride_from 0 plan (length x)) p ≡ false
  outside x e = lies_one W plan ok p short x ∙ e

  inside : lies_in path (stride_from 0 plan (length path)) p ≡ true
  inside = lies_there W plan ok p short

  at_place : position (drop (length path) p) ≡ place
  at_place = ap (λ k. position (drop k p)) (path_length W plan ok p short)

  low_there : position (drop (length path) p) < 64
  low_there = let l = low in let e = at_place in omega arith

  -- ---- a route put in

  module _ (routes : Routes) (h : ℕ) where
    abbrev nodes : Nodes
    nodes = image N plan routes at

    own_bitmap : nodes.bitmap node ≡ bitmap_of path (stride_from 0 plan (length path)) routes
    unfolding image
    own_bitmap = simp own

    own_hop : (i : ℕ) → nodes.hop node i ≡ hop_in path (stride_from 0 plan (length path)) routes i
    unfolding image
    own_hop i = simp own

    both : (n i v : ℕ) → cond (eqb n node) (cond (eqb i place) v (nodes.hop node i)) (nodes.hop n i) ≡ cond (eqb n node && eqb i place) v (nodes.hop n i)
    both n i v = elim (decided (eqb n node)) [
      | holds e ↦ simp e (ap (λ (k : ℕ). cond (eqb i place) v (nodes.hop k i)) (sym (eqb-true n node e)))
      | fails e ↦ simp e
    ]

    bitmaps : (n : ℕ) → (image N plan (put routes p h) at).bitmap n ≡ cond (eqb n node) (with_mark (nodes.bitmap node) place) (nodes.bitmap n)
    unfolding image
    bitmaps n =
        one_field (λ x s. bitmap_of x s routes) (λ x s. bitmap_of x s (put routes p h)) (with_mark (nodes.bitmap node) place)
        (bitmap_put path (stride_from 0 plan (length path)) p routes h inside low_there ∙ ap₂ with_mark (sym own_bitmap) at_place)
        (λ x other. bitmap_put_other x (stride_from 0 plan (length x)) p routes h (outside x other)) n

    hops : (n i : ℕ) → (image N plan (put routes p h) at).hop n i ≡ cond (eqb n node && eqb i place) h (nodes.hop n i)
    unfolding image
    hops n i =
        one_field (λ x s. hop_in x s routes i) (λ x s. hop_in x s (put routes p h) i) (cond (eqb i place) h (nodes.hop node i))
        (hop_put_there path (stride_from 0 plan (length path)) p routes h i inside
        ∙ ap₂ (λ (j x : ℕ). cond (eqb i j) h x) at_place (sym (own_hop i)))
        (λ x other. hop_put_other x (stride_from 0 plan (length x)) p routes h i (outside x other)) n
        ∙ both n i h

    pub marked_image : image N plan (put routes p h) at ≡ marked_node nodes node place h
    unfolding image
    marked_image = λ i. record {
      size = N;
      bitmap = λ n. bitmaps n i;
      count = nodes.count;
      child = nodes.child;
      hop = λ n j. hops n j i;
    }

    -- ---- and taken out

    bitmaps_without : (n : ℕ) → (image N plan (without routes p) at).bitmap n ≡ cond (eqb n node) (without_mark (nodes.bitmap node) place) (nodes.bitmap n)
    unfolding image
    bitmaps_without n =
        one_field (λ x s. bitmap_of x s routes) (λ x s. bitmap_of x s (without routes p)) (without_mark (nodes.bitmap node) place)
        (bitmap_without path (stride_from 0 plan (length path)) p routes inside low_there ∙ ap₂ without_mark (sym own_bitmap) at_place)
        (λ x other. bitmap_without_other x (stride_from 0 plan (length x)) p routes (outside x other)) n

    hops_without : (n i : ℕ) → (image N plan (without routes p) at).hop n i ≡ cond (eqb n node && eqb i place) 0 (nodes.hop n i)
    unfolding image
    hops_without n i =
        one_field (λ x s. hop_in x s routes i) (λ x s. hop_in x s (without routes p) i) (cond (eqb i place) 0 (nodes.hop node i))
        (hop_without_there path (stride_from 0 plan (length path)) p routes i inside
        ∙ ap₂ (λ (j x : ℕ). cond (eqb i j) 0 x) at_place (sym (own_hop i)))
        (λ x other. hop_without_other x (stride_from 0 plan (length x)) p routes i (outside x other)) n
        ∙ both n i 0

    pub unmarked_image : image N plan (without routes p) at ≡ unmarked_node nodes node place
    unfolding image
    unmarked_image = λ i. record {
      size = N;
      bitmap = λ n. bitmaps_without n i;
      count = nodes.count;
      child = nodes.child;
      hop = λ n j. hops_without n j i;
    }
