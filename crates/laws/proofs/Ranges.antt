-- Every field of an image is one that a node memory takes.
use Rattle.std.proofs.Common.{◌≡◌, ℕ, zero, suc, ◌^◌, ◌<◌, ◌≤◌, true, false, cond, eqb, ltb, List, [], ◌∷◌, ◌++◌, length, drop, Some, None, Option, sym, refl, ◌∙◌, subst, arith, lit<, lit≤, pow_pos}
use Rattle.std.proofs.lemmas.Bool.{and_right, ltb-true, ne_eqb, or_from, or_left, or_right}
use Rattle.bits.specs.Rows.{Bits, number, row}
use Rattle.bits.proofs.Orders.{holds, fails, decided, number_lt}
use Rattle.laws.specs.Lists.{Holdable, InRange}
use Rattle.laws.specs.Trees.{Takeable}
use Rattle.laws.proofs.Positions.{length_marks, marked_at}
use Rattle.laws.proofs.Served.{eqb_self, listed_append, node_listed, node_none}
use Rattle.laws.proofs.Ways.{root_required}
use Rattle.model.specs.Nodes.{marked}
use Rattle.model.specs.Places.{position}
use Rattle.model.specs.Placements.{Placement, SoundPlacement, bitmap_of, child_of, count_of, field, front, hop_in, image, lies_at, lies_in, link_in, listed, marks, node_at, nodes_of, path_at, paths, stride_from, taken_at}
use Rattle.model.specs.Required.{member}
use Rattle.model.specs.Routes.{Routes, last_hop}

-- ---- the fields of a node in use

-- no route lies at position 0
pub none_at_zero : (path : Bits) (s : ℕ) (rs : Routes) → taken_at path s rs 0 ≡ false
none_at_zero path s [] = refl
none_at_zero path s (r ∷ rs) =
    let rest = drop (length path) r.prefix in
    let some = pow_pos (length rest) in
    or_from (lies_at path s 0 r.prefix) (taken_at path s rs 0)
    (and_right (lies_in path s r.prefix) (eqb 0 (position rest)) (ne_eqb 0 (position rest) (λ (e : 0 ≡ position rest). omega arith)))
    (none_at_zero path s rs)

hop_small : (W : ℕ) (path : Bits) (s i : ℕ) (rs : Routes) → InRange W rs → hop_in path s rs i ≤ last_hop
hop_small W path s i [] h = lit≤ tt
hop_small W path s i (r ∷ rs) h = elim (decided (lies_at path s i r.prefix)) [
  | holds e ↦ simp e h.1
  | fails e ↦ simp e (hop_small W path s i rs h.2)
]

pub count_small : (f : ℕ → ℕ) (k : ℕ) → count_of f k ≤ k
count_small f zero = omega arith
count_small f (suc k) = let rest = count_small f k in elim (decided (eqb (f k) 0)) [ holds e ↦ simp e (omega arith) | fails e ↦ simp e (omega arith) ]

-- ---- the links of the free ones

pub front_below : (N : ℕ) (free : List ℕ) → 0 < N → ((m : ℕ) → listed m free ≡ true → m < N) → front free < N
front_below N [] some h = some
front_below N (m ∷ ms) some h = h m (or_left (eqb m m) (listed m ms) (eqb_self m))

link_below : (N n : ℕ) (free : List ℕ) → 0 < N → ((m : ℕ) → listed m free ≡ true → m < N) → link_in free n < N
link_below N n [] some h = some
link_below N n (m ∷ ms) some h =
    let rest = λ (k : ℕ) (e : listed k ms ≡ true). h k (or_right (eqb k m) (listed k ms) e) in
    elim (decided (eqb n m)) [ holds e ↦ simp e (front_below N ms some rest) | fails e ↦ simp e (link_below N n ms some rest) ]

module _ (W N : ℕ) (plan : List ℕ) (routes : Routes) (at : Placement) (can : Holdable W plan routes) (sound : SoundPlacement N plan routes at) where
  -- a node that is listed is below N, and there is one
  listed_below : (n : ℕ) → listed n (nodes_of at.used ++ at.free) ≡ true → n < N
  listed_below n e = ltb-true n N (sym (sound.each_node n) ∙ e)

  used_below : (n : ℕ) → listed n (nodes_of at.used) ≡ true → n < N
  used_below n e = listed_below n (listed_append n (nodes_of at.used) at.free ∙ or_left (listed n (nodes_of at.used)) (listed n at.free) e)

  free_below : (n : ℕ) → listed n at.free ≡ true → n < N
  free_below n e = listed_below n (listed_append n (nodes_of at.used) at.free ∙ or_right (listed n (nodes_of at.used)) (listed n at.free) e)

  some_node : 0 < N
  some_node =
      let there = node_listed at.used [] (sound.served [] ∙ root_required plan routes) in
      used_below 0 (subst (λ (m : ℕ). listed m (nodes_of at.used) ≡ true) sound.root there)

  pub node_below : (q : Bits) → node_at at.used q < N
  node_below q = elim (decided (member q (paths at.used))) [
    | holds e ↦ used_below (node_at at.used q) (node_listed at.used q e)
    | fails e ↦ (let none = node_none at.used q e in let some = some_node in omega arith)
  ]

  child_below : (path : Bits) (s i : ℕ) → child_of at.used path s i < N
  child_below path s i = elim (decided (ltb i (2 ^ s))) [ holds e ↦ simp e (node_below (path ++ row s i)) | fails e ↦ simp e some_node ]

  free_child : (n i : ℕ) → cond (eqb i 0) (link_in at.free n) 0 < N
  free_child n i = elim (decided (eqb i 0)) [ holds e ↦ simp e (link_below N n at.free some_node free_below) | fails e ↦ simp e some_node ]

  -- by whether the node has a path
  no_mark_at : (o : Option Bits) → marked (field plan o (λ path s. bitmap_of path s routes) 0) 0 ≡ false
  unfolding marked
  no_mark_at None = refl
  no_mark_at (Some path) = mark_there path (stride_from 0 plan (length path))
    where
      mark_there : (path : Bits) (s : ℕ) → marked (bitmap_of path s routes) 0 ≡ false
      mark_there path s = marked_at (taken_at path s routes) 64 0 (lit< tt) ∙ none_at_zero path s routes

  bitmap_small : (o : Option Bits) → field plan o (λ path s. bitmap_of path s routes) 0 < 2 ^ 64
  bitmap_small None = lit< tt
  bitmap_small (Some path) =
      let ms = marks (taken_at path (stride_from 0 plan (length path)) routes) 64 in
      subst (λ (k : ℕ). number ms < 2 ^ k) (length_marks (taken_at path (stride_from 0 plan (length path)) routes) 64) (number_lt ms)

  count_at : (o : Option Bits) → field plan o (λ path s. count_of (child_of at.used path s) 64) 0 ≤ 64
  count_at None = lit≤ tt
  count_at (Some path) = count_small (child_of at.used path (stride_from 0 plan (length path))) 64

  child_at : (o : Option Bits) (n i : ℕ) → field plan o (λ path s. child_of at.used path s i) (cond (eqb i 0) (link_in at.free n) 0) < N
  child_at None n i = free_child n i
  child_at (Some path) n i = child_below path (stride_from 0 plan (length path)) i

  hop_at_most : (o : Option Bits) (i : ℕ) → field plan o (λ path s. hop_in path s routes i) 0 ≤ last_hop
  hop_at_most None i = lit≤ tt
  hop_at_most (Some path) i = hop_small W path (stride_from 0 plan (length path)) i routes can.ranged

  pub image_takeable : Takeable (image N plan routes at)
  unfolding image
  image_takeable =
      record {
        no_mark = λ n. no_mark_at (path_at at.used n);
        bitmaps = λ n. bitmap_small (path_at at.used n);
        counts = λ n. count_at (path_at at.used n);
        children = λ n i. child_at (path_at at.used n) n i;
        hops = λ n i. hop_at_most (path_at at.used n) i;
      }
