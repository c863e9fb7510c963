-- A delete returns the nodes of its way one by one, the deepest first: the placements in between, and what each return changes of the image.
use Rattle.std.proofs.Common.{◌≡◌, ℕ, zero, suc, ◌+◌, ◌-◌, ◌^◌, ◌<◌, ◌≤◌, Bool, true, false, cond, not, ◌≢◌, ◌&&◌, ◌||◌, eqb, ltb, ◌⊎◌, List, [], ◌∷◌, ◌++◌, length, get_or, take, drop, is_some, Some, None, Option, sym, refl, ap, ◌∙◌, subst, inl, inr, ⊎_elim, not-suc-le-zero, length-take-le, take-take, take-add, take_at, drop_at, take-append-drop, length-append, length-take, length-drop, pow_mono, lt-ltb, ltb-true, ltb-false, arith}
use native.Mathlib.Nat.{mod-eq_of_lt, zero-div}
use Rattle.std.proofs.lemmas.Bool.{cases_lt, eqb-true, eqb-false, ne_eqb, or_left, or_right}
use Rattle.bits.specs.Rows.{Bits, number, row}
use Rattle.bits.specs.Order.{begins, same}
use Rattle.bits.proofs.Orders.{holds, fails, decided, number_lt, same_eq, same_self}
use Rattle.bits.proofs.Prefixes.{front_from_begins, row_number}
use Rattle.bits.proofs.Rows.{length_row, number_row}
use Rattle.laws.proofs.Bools.{or_false}
use Rattle.laws.proofs.Placements.{without_ways}
use Rattle.laws.proofs.Plans.{planned}
use Rattle.laws.proofs.Required.{no_longer, offset_required, which, required_cases, step_way, way_step}
use Rattle.laws.proofs.Levels.{place_laws}
use Rattle.laws.proofs.Positions.{hop_there}
use Rattle.laws.proofs.Ranges.{count_small, front_below}
use Rattle.laws.proofs.Returning.{return_shrunk, way_single, without_member, without_node, without_none}
use Rattle.laws.proofs.Routes.{find_without, find_without_other}
use Rattle.laws.proofs.Served.{eqb_self, free_unused, listed_append, node_apart, node_listed, node_none, node_zero, path_of as path_back}
use Rattle.laws.proofs.Singles.{single_distinct}
use Rattle.laws.proofs.Taking.{proper, sound as sound_for}
use Rattle.laws.proofs.Ways.{held_more, held_short, root_required, way_front, way_required}
use Rattle.laws.specs.Lists.{Holdable}
use Rattle.laws.specs.Required.{Beneath}
use Rattle.model.specs.Nodes.{Nodes, marked}
use Rattle.model.specs.Placements.{Place, Placement, SoundPlacement, after_delete, bitmap_of, child_of, count_of, field, front, hop_in, image, lies_in, link_in, listed, marks, node_at, nodes_of, path_at, paths, return_all, stride_from, taken_at, without_path}
use Rattle.model.specs.Places.{indexes, level, position}
use Rattle.model.specs.Plans.{in_range, offset, offsets}
use Rattle.model.specs.Required.{Single, distinct, fresh, member, required, required_paths, way}
use Rattle.model.specs.Routes.{Routes, find, put, without}
use Rattle.images.specs.Steps.{ServedTo, delete_at, path_of, returned_node}
use Rattle.images.proofs.MarkedNodes.{node_of_path, path_member}
use Rattle.images.proofs.Opening.{count_none}
use Rattle.images.proofs.Strides.{stride_of}
use Rattle.images.proofs.Climbs.{at_or_behind, offset_above, offset_all, offset_next, offset_same, stride_range, front_required, down, down_length, down_member, down_single, fresh_behind, fresh_none, indexes_down, kept_above, kept_below, needed_up, on_apart, on_front, on_length, on_plan, on_reach, put_required, return_kept, return_one, return_same, returned, root_needed, way_down}

module _ (W N : ℕ) (plan : List ℕ) (routes : Routes) (at : Placement) (p : Bits) (h : ℕ)
    (can : Holdable W plan routes) (sound : SoundPlacement N plan routes at) (held : find routes p ≡ Some h) where
  short : length p ≤ W
  short = held_short W routes p can.ranged (ap is_some held)

  abbrev last : ℕ
  last = level plan (length p)

  abbrev left : Routes
  left = without routes p

  -- the paths that keep their nodes as far as the k-th
  abbrev kept : ℕ → List Bits
  kept k = required_paths plan (put left (path_of plan p k) 0)

  at_row : (k : ℕ) → delete_at plan left p at k ≡ return_all (kept k) (down (path_of plan p) 0 (suc last)) at
  unfolding after_delete
  at_row k = ap (λ (l : List Bits). return_all (kept k) l at) (way_down W plan can.planned p short)

  -- before anything is returned
  pub return_none : delete_at plan left p at last ≡ at
  return_none =
      at_row last ∙ return_kept (path_of plan p) (kept last) 0 (suc last) at
      (λ j i l. kept_above W plan can.planned p short left j last (omega arith) (omega arith))

  -- from a path on that is still required, all is returned that is to be
  pub return_all_kept : (k : ℕ) → k ≤ last → member (path_of plan p k) (required_paths plan left) ≡ true
      → delete_at plan left p at k ≡ after_delete plan left p at
  unfolding after_delete
  return_all_kept k l needed =
      at_row k
      ∙ return_same (path_of plan p) (kept k) (required_paths plan left) 0 (suc last) at
      (λ j i m. ⊎_elim
      (λ (e : k < j). kept_below W plan can.planned p short left j k e (omega arith))
      (λ (e : j ≤ k). kept_above W plan can.planned p short left j k e l ∙ sym (needed_up W plan can.planned p short left j k e l needed))
      (cases_lt k j))
      ∙ ap (λ (ps : List Bits). return_all (required_paths plan left) ps at) (sym (way_down W plan can.planned p short))

  pub return_root : delete_at plan left p at 0 ≡ after_delete plan left p at
  return_root = return_all_kept 0 (omega arith) (root_needed W plan can.planned p short left)

  -- ---- the placements in between are sound

  way_within : (k : ℕ) → k ≤ last → (q : Bits) → member q (way (offsets plan) (path_of plan p k)) ≡ true
      → member q (way (offsets plan) p) ≡ true
  way_within k l q m =
      let x = way_step 0 plan (path_of plan p k) q m in
      let size = on_length W plan can.planned p short k l in
      let reach = on_reach W plan can.planned p short k l in
      let near = x.reaches in
      let front : q ≡ take (0 + offset plan x.stride) p = x.is ∙ take-take (0 + offset plan x.stride) (offset plan k) p (omega arith) in
      ap (λ (y : Bits). member y (way (offsets plan) p)) front ∙ step_way 0 plan p x.stride x.planned (omega arith)

  on_served : (q : Bits) → member q (way (offsets plan) p) ≡ true → member q (paths at.used) ≡ true
  on_served q e = sound.served q ∙ way_required plan routes p q (ap is_some held) e

  kept_members : (k : ℕ) → k ≤ last → (q : Bits)
      → (member q (paths at.used) && (member q (kept k) || not (member q (way (offsets plan) p)))) ≡ member q (kept k)
  kept_members k l q = elim (decided (member q (way (offsets plan) p))) [
    | holds e ↦ simp (e, on_served q e) (or_false (member q (kept k)))
    | fails e ↦
        (let none : member q (way (offsets plan) (path_of plan p k)) ≡ false = elim (decided (member q (way (offsets plan) (path_of plan p k)))) [
          | holds m ↦ (let wrong = sym e ∙ way_within k l q m in cc)
          | fails m ↦ m
        ] in
        let as_before : member q (paths at.used) ≡ member q (kept k) =
        sound.served q ∙ required_cases plan routes q
        ∙ ap (λ t. same q [] || t) (without_ways (offsets plan) routes p q e)
        ∙ sym (required_cases plan left q)
        ∙ sym (put_required plan left (path_of plan p k) 0 q ∙ simp none) in
        simp (e, as_before) (and_itself (member q (kept k))))
  ]
    where
      and_itself : (t : Bool) → (t && (t || true)) ≡ t
      and_itself true = refl
      and_itself false = refl

  pub return_sound : (k : ℕ) → k ≤ last → SoundPlacement N plan (put left (path_of plan p k) 0) (delete_at plan left p at k)
  unfolding after_delete
  return_sound k l =
      let shrunk = return_shrunk N (kept k) (way (offsets plan) p) at (proper N plan routes at sound)
      (root_required plan (put left (path_of plan p k) 0))
      (way_single plan 0 p (planned W plan can.planned).range) on_served in
      sound_for N plan (put left (path_of plan p k) 0) (return_all (kept k) (way (offsets plan) p) at) shrunk.is
      (λ q. shrunk.members q ∙ kept_members k l q)

  -- and the k-th path has its node
  pub return_there : (k : ℕ) → k ≤ last → member (path_of plan p k) (paths (delete_at plan left p at k).used) ≡ true
  return_there k l = (return_sound k l).served (path_of plan p k) ∙ kept_above W plan can.planned p short left k k (omega arith) l

  -- ---- how many nodes are returned

  -- before the delete, each path on the way has a node
  pub served_before : (k : ℕ) → k ≤ last → member (path_of plan p k) (required_paths plan routes) ≡ true
  served_before k l =
      way_required plan routes p (path_of plan p k) (ap is_some held)
      (ap (λ (ps : List Bits). member (path_of plan p k) ps) (way_down W plan can.planned p short)
      ∙ down_member (path_of plan p) 0 (suc last) k (omega arith) (omega arith))

  -- returned are the nodes below the deepest path that is still required
  pub return_count : (j : ℕ) → j ≤ last → member (path_of plan p j) (required_paths plan left) ≡ true
      → (j ≡ last) ⊎ (member (path_of plan p (suc j)) (required_paths plan left) ≡ false)
      → required plan routes ≡ required plan left + (last - j)
  return_count j l needed deepest =
      let f = path_of plan p in
      let R = required_paths plan left in
      let row : List Bits = down f (suc j) (last - j) in
      let whole : suc last ≡ suc j + (last - j) = omega arith in
      let start : 0 + suc j ≡ suc j = omega arith in
      no_longer plan routes p h can.ascends held
      ∙ ap (λ (ps : List Bits). required plan left + length (distinct ps))
      (ap (λ (ps : List Bits). fresh ps R) (way_down W plan can.planned p short ∙ ap (down f 0) whole)
      ∙ fresh_behind f R 0 (suc j) (last - j) (λ k i m. needed_up W plan can.planned p short left k j (omega arith) l needed)
      ∙ ap (λ k. fresh (down f k (last - j)) R) start
      ∙ fresh_none f R (suc j) (last - j) (λ k i m. none_deeper k i (omega arith)))
      ∙ ap (λ (ps : List Bits). required plan left + length ps)
      (single_distinct row (down_single f (suc j) (last - j) (λ a b i m. on_apart W plan can.planned p short a b i (omega arith))))
      ∙ ap (λ k. required plan left + k) (down_length f (suc j) (last - j))
    where
      none_deeper : (k : ℕ) → j < k → k ≤ last → member (path_of plan p k) (required_paths plan left) ≡ false
      none_deeper k i m = elim (decided (member (path_of plan p k) (required_paths plan left))) [
        | holds e ↦ ⊎_elim
            (λ (d : j ≡ last). absurd (omega arith))
            (λ (d : member (path_of plan p (suc j)) (required_paths plan left) ≡ false).
            let wrong = sym d ∙ needed_up W plan can.planned p short left (suc j) k i m e in
            cc)
            deepest
        | fails e ↦ e
      ]

  pub returned_below : (j : ℕ) → ServedTo plan left p j → required plan routes ≡ required plan left + (length (indexes plan p) - j)
  returned_below j to =
      let size = indexes_down W plan can.planned p short in
      let deepest : (j ≡ last) ⊎ (member (path_of plan p (suc j)) (required_paths plan left) ≡ false) =
      ⊎_elim
      (λ (e : j < last). inr (to.no_more (omega arith)))
      (λ (e : last ≤ j). inl (let l = to.within in omega arith))
      (cases_lt j last) in
      return_count j (let l = to.within in omega arith) to.there deepest
      ∙ ap (λ k. required plan left + (k - j)) (sym size)

  -- ---- one node more

  -- where the path behind the k-th is no longer required, its node is the next to be returned
  pub one_returned : (k : ℕ) → suc k ≤ last → member (path_of plan p (suc k)) (required_paths plan left) ≡ false
      → delete_at plan left p at k ≡ returned (path_of plan p (suc k)) (delete_at plan left p at (suc k))
  one_returned k l gone =
      at_row k
      ∙ return_one (path_of plan p) (kept k) (kept (suc k)) (suc k) 0 (suc last) at (omega arith) (omega arith)
      (λ j i m. (
        kept_above W plan can.planned p short left j k (omega arith) (omega arith),
        kept_above W plan can.planned p short left j (suc k) (omega arith) l,
      )) (
        kept_below W plan can.planned p short left (suc k) k (omega arith) l ∙ gone,
        kept_above W plan can.planned p short left (suc k) (suc k) (omega arith) l,
      )
      (λ j i m. kept_below W plan can.planned p short left j k (omega arith) (omega arith)
      ∙ sym (kept_below W plan can.planned p short left j (suc k) i (omega arith)))
      ∙ ap (returned (path_of plan p (suc k))) (sym (at_row (suc k)))

-- ---- one path less in a placement

-- the other nodes keep their paths
path_without : (used : List Place) (a : ℕ) (x : Bits) → Single (paths used) → eqb a (node_at used x) ≡ false
    → path_at (without_path used x) a ≡ path_at used a
path_without [] a x single h = refl
path_without (y ∷ ys) a x single h = elim (decided (same x y.path)) [
  | holds e ↦
      (let none : member x (paths ys) ≡ false = subst (λ (z : Bits). member z (paths ys) ≡ false) (sym (same_eq x y.path e)) single.0 in
      let other : eqb a y.node ≡ false = simp e at h in
      simp (e, other) (ap (λ (l : List Place). path_at l a) (without_none ys x none)))
  | fails e ↦
      (let rest = path_without ys a x single.1 (simp e at h) in
      simp e (ap (cond (eqb a y.node) (Some y.path)) rest))
]

-- its own node is none any more
node_gone : (used : List Place) (x : Bits) → node_at (without_path used x) x ≡ 0
node_gone used x = node_none (without_path used x) x (without_member used x x ∙ simp (same_self x))

-- ---- how many children there are

-- at least one, and as many
count_some : (f : ℕ → ℕ) (i k : ℕ) → i < k → eqb (f i) 0 ≡ false → 1 ≤ count_of f k
count_some f i zero h some = absurd (not-suc-le-zero h)
count_some f i (suc k) h some = elim (decided (eqb (f k) 0)) [
  | holds e ↦
      simp e (⊎_elim
      (λ (same : i ≡ k).
      let wrong : eqb (f k) 0 ≡ false = subst (λ j. eqb (f j) 0 ≡ false) same some in
      let z : ◌≡◌ {A = ℕ} 0 1 = cc in
      absurd (omega arith))
      (λ (less : i < k). count_some f i k less some)
      (at_or_behind i k (omega arith)))
  | fails e ↦ simp e (omega arith)
]

count_same : (f g : ℕ → ℕ) (k : ℕ) → ((j : ℕ) → j < k → g j ≡ f j) → count_of g k ≡ count_of f k
count_same f g zero h = refl
count_same f g (suc k) h = simp (h k (omega arith), count_same f g k (λ j l. h j (omega arith)))

-- one less, where one of them is none any more
count_less : (f g : ℕ → ℕ) (i k : ℕ) → i < k → eqb (f i) 0 ≡ false → g i ≡ 0 → ((j : ℕ) → eqb j i ≡ false → g j ≡ f j)
    → count_of g k ≡ count_of f k - 1
count_less f g i zero h some gone others = absurd (not-suc-le-zero h)
count_less f g i (suc k) h some gone others = ⊎_elim
    (λ (e : i ≡ k).
    let was : eqb (f k) 0 ≡ false = subst (λ j. eqb (f j) 0 ≡ false) e some in
    let now : g k ≡ 0 = subst (λ j. g j ≡ 0) e gone in
    let rest = count_same f g k (λ j l. others j (ne_eqb j i (λ (x : j ≡ i). omega arith))) in
    simp (was, now) (omega arith))
    (λ (e : i < k).
    let rest = count_less f g i k e some gone others in
    let low = count_some f i k e some in
    let here = others k (ne_eqb k i (λ (x : k ≡ i). omega arith)) in
    elim (decided (eqb (f k) 0)) [
      | holds z ↦ simp (here, z) rest
      | fails z ↦ simp (here, z) (omega arith)
    ])
    (at_or_behind i k (omega arith))

-- ---- the routes that lie in a node

-- none does, where none of the held prefixes does
module _ (x : Bits) (t : ℕ) where
  none_taken : (rs : Routes) → ((q : Bits) → is_some (find rs q) ≡ true → lies_in x t q ≡ false) → (j : ℕ) → taken_at x t rs j ≡ false
  none_taken [] h j = refl
  none_taken (r ∷ rs) h j = simp (h r.prefix (simp (same_self r.prefix))) (none_taken rs (λ q m. h q (held_more r rs q m)) j)

  none_hop : (rs : Routes) → ((q : Bits) → is_some (find rs q) ≡ true → lies_in x t q ≡ false) → (j : ℕ) → hop_in x t rs j ≡ 0
  none_hop [] h j = refl
  none_hop (r ∷ rs) h j = simp (h r.prefix (simp (same_self r.prefix))) (none_hop rs (λ q m. h q (held_more r rs q m)) j)

-- nothing is marked
none_marked : (f : ℕ → Bool) (n : ℕ) → ((j : ℕ) → f j ≡ false) → number (marks f n) ≡ 0
unfolding number
none_marked f zero h = refl
none_marked f (suc n) h = let rest = none_marked f n h in simp (h n) (omega arith)

zero_unmarked : (j : ℕ) → marked 0 j ≡ false
unfolding marked
zero_unmarked j = simp zero-div

-- the first bits of a row, and the next ones as those of a number
next_row : (q : Bits) (o t : ℕ) → o + t ≤ length q
    → (take (o + t) q ≡ take o q ++ row t (number (take t (drop o q)))) × (number (take t (drop o q)) < 2 ^ t)
next_row q o t h =
    let left = length-drop o q in
    let size : length (take t (drop o q)) ≡ t = length-take-le t (drop o q) (omega arith) in
    let again : row t (number (take t (drop o q))) ≡ take t (drop o q) =
    ap (λ k. row k (number (take t (drop o q)))) (sym size) ∙ row_number (take t (drop o q)) in (
      take-add o t q ∙ ap (λ (z : Bits). take o q ++ z) (sym again),
      subst (λ k. number (take t (drop o q)) < 2 ^ k) size (number_lt (take t (drop o q))),
    )

-- rows behind the same bits differ where their numbers do
rows_apart : (z : Bits) (t i j : ℕ) → i < 2 ^ t → j < 2 ^ t → z ++ row t i ≡ z ++ row t j → i ≡ j
rows_apart z t i j h k e =
    let rows : row t i ≡ row t j = sym (drop_at z (row t i) (length z) refl) ∙ ap (drop (length z)) e ∙ drop_at z (row t j) (length z) refl in
    sym (mod-eq_of_lt h) ∙ sym (number_row t i) ∙ ap number rows ∙ number_row t j ∙ mod-eq_of_lt k

-- ---- the node of a path on the way, and its parent

-- From one placement to the next the node of the path behind the k-th is returned: its parent, the node of the k-th, has it as a child, and it
-- goes to the front of the chain.
pub record Returns (N : ℕ) (plan : List ℕ) (left : Routes) (p : Bits) (k : ℕ) (now later : Placement) : Type 0 where
  pub next :
      image N plan left later
      ≡ returned_node (image N plan left now) (node_at now.used (path_of plan p (suc k))) (node_at now.used (path_of plan p k))
      (get_or (indexes plan p) k 0) (front now.free)
  pub free : later.free ≡ node_at now.used (path_of plan p (suc k)) ∷ now.free
  pub node : node_at later.used (path_of plan p k) ≡ node_at now.used (path_of plan p k)
  pub some : node_at now.used (path_of plan p (suc k)) ≢ 0
  pub bounds :
      (node_at now.used (path_of plan p (suc k)) < N) × (node_at now.used (path_of plan p k) < N) × (front now.free < N)
      × (get_or (indexes plan p) k 0 < 64)
  pub count :
      (1 ≤ (image N plan left now).count (node_at now.used (path_of plan p k)))
      × ((image N plan left now).count (node_at now.used (path_of plan p k)) ≤ 64)
  pub apart : eqb (node_at now.used (path_of plan p k)) (node_at now.used (path_of plan p (suc k))) ≡ false
  pub child :
      (image N plan left now).child (node_at now.used (path_of plan p k)) (get_or (indexes plan p) k 0) ≡ node_at now.used (path_of plan p (suc k))

module _ (W N : ℕ) (plan : List ℕ) (routes : Routes) (at : Placement) (p : Bits) (h : ℕ)
    (can : Holdable W plan routes) (sound : SoundPlacement N plan routes at) (held : find routes p ≡ Some h)
    (k : ℕ) (deep : suc k ≤ level plan (length p)) where
  abbrev below : List Bits
  below = required_paths plan (without routes p)

  abbrev x : Bits
  x = path_of plan p (suc k)

  abbrev up : Bits
  up = path_of plan p k

  -- the stride at its path, and at that of its parent
  abbrev t : ℕ
  t = get_or plan (suc k) 0

  abbrev s : ℕ
  s = get_or plan k 0

  abbrev i : ℕ
  i = get_or (indexes plan p) k 0

  abbrev now : Placement
  now = delete_at plan (without routes p) p at (suc k)

  abbrev nodes : Nodes
  nodes = image N plan (without routes p) now

  abbrev m : ℕ
  m = node_at now.used x

  abbrev n : ℕ
  n = node_at now.used up

  abbrev ok : in_range plan ≡ true
  ok = (planned W plan can.planned).range

  within : length p ≤ W
  within = short W N plan routes at p h can sound held

  is_sound : SoundPlacement N plan (put (without routes p) x 0) now
  is_sound = return_sound W N plan routes at p h can sound held (suc k) deep

  planned_x : suc k < length plan
  planned_x = on_plan W plan can.planned p within (suc k) deep

  x_length : length x ≡ offset plan (suc k)
  x_length = on_length W plan can.planned p within (suc k) deep

  up_length : length up ≡ offset plan k
  up_length = on_length W plan can.planned p within k (omega arith)

  -- lengths and strides
  stride_at : (z : Bits) (b : ℕ) → b < length plan → length z ≡ offset plan b → stride_from 0 plan (length z) ≡ get_or plan b 0
  stride_at z b l e =
      let none : length z ≡ 0 + offset plan b = omega arith in
      ap (stride_from 0 plan) none ∙ stride_of plan 0 b ok l

  x_stride : stride_from 0 plan (length x) ≡ t
  x_stride = stride_at x (suc k) planned_x x_length

  up_stride : stride_from 0 plan (length up) ≡ s
  up_stride = stride_at up k (let a = planned_x in omega arith) up_length

  x_offset : offset plan (suc k) ≡ offset plan k + s
  x_offset = offset_next plan k (let a = planned_x in omega arith)

  -- the path goes on from its parent's by the child index
  x_row : (x ≡ up ++ row s i) × (i < 2 ^ s)
  x_row =
      let reach = on_reach W plan can.planned p within (suc k) deep in
      let next = x_offset in
      let size = place_laws.one_index_each W plan p can.planned within in
      let index : i ≡ number (take s (drop (offset plan k) p)) = place_laws.index_at plan p k (omega arith) in
      let cut = next_row p (offset plan k) s (omega arith) in (
        ap (λ o. take o p) next ∙ cut.0 ∙ ap (λ j. up ++ row s j) (sym index),
        subst (λ j. j < 2 ^ s) (sym index) cut.1,
      )

  s_small : s ≤ 6
  s_small = (stride_range plan k ok (let a = planned_x in omega arith)).1

  t_some : 1 ≤ t
  t_some = (stride_range plan (suc k) ok planned_x).0

  t_small : t ≤ 6
  t_small = (stride_range plan (suc k) ok planned_x).1

  i_small : i < 64
  i_small = let below64 : 2 ^ s ≤ 2 ^ 6 = pow_mono s_small in let l = x_row.1 in omega arith

  -- both have nodes, and different ones, and its own is not the root's
  x_there : member x (paths now.used) ≡ true
  x_there = return_there W N plan routes at p h can sound held (suc k) deep

  up_there : member up (paths now.used) ≡ true
  up_there = is_sound.served up ∙ kept_above W plan can.planned p within (without routes p) k (suc k) (omega arith) deep

  root_there : member [] (required_paths plan (put (without routes p) x 0)) ≡ true
  root_there = root_required plan (put (without routes p) x 0)

  x_own : path_at now.used m ≡ Some x
  x_own = path_back N plan (put (without routes p) x 0) now is_sound x x_there

  up_own : path_at now.used n ≡ Some up
  up_own = path_back N plan (put (without routes p) x 0) now is_sound up up_there

  apart : eqb n m ≡ false
  apart = ne_eqb n m (λ e.
      let same_path = node_apart N plan (put (without routes p) x 0) now is_sound up x up_there x_there e in
      on_apart W plan can.planned p within k (suc k) (omega arith) deep same_path)

  x_some : 1 ≤ length x
  x_some = let a = offset_above plan 0 (suc k) ok (omega arith) (let l = planned_x in omega arith) in let l = x_length in omega arith

  not_zero : eqb m 0 ≡ false
  not_zero = elim (decided (eqb m 0)) [
    | holds e ↦
        (let wrong = node_zero N plan (put (without routes p) x 0) now is_sound root_there x x_some e in
        let there = x_there in
        let z : ◌≡◌ {A = ℕ} 0 1 = cc in
        absurd (omega arith))
    | fails e ↦ e
  ]

  -- what the memory reads there
  x_bitmap : nodes.bitmap m ≡ bitmap_of x t (without routes p)
  unfolding image
  x_bitmap = simp (x_own, x_stride)

  x_count : nodes.count m ≡ count_of (child_of now.used x t) 64
  unfolding image
  x_count = simp (x_own, x_stride)

  up_count : nodes.count n ≡ count_of (child_of now.used up s) 64
  unfolding image
  up_count = simp (up_own, up_stride)

  up_child : (j : ℕ) → nodes.child n j ≡ child_of now.used up s j
  unfolding image
  up_child j = simp (up_own, up_stride)

  child_is : child_of now.used up s i ≡ m
  child_is = simp (lt-ltb i (2 ^ s) x_row.1) (ap (node_at now.used) (sym x_row.0))

  -- ---- no route is left at or beyond the path

  module _ (gone : member x below ≡ false) where
    -- no route, mark, path or child
    no_route : (q : Bits) → is_some (find (without routes p) q) ≡ true → lies_in x t q ≡ false
    no_route q there = elim (decided (begins x q)) [
      | holds e ↦
          (let front = front_from_begins x q e in
          let size = ap length front in
          let cut = length-take (length x) q in
          let long = x_length in
          let req = offset_required plan (without routes p) q (suc k) there planned_x (omega arith) in
          let is : take (offset plan (suc k)) q ≡ x = ap (λ o. take o q) (sym long) ∙ front in
          let wrong : member x below ≡ true = subst (λ (y : Bits). member y below ≡ true) is req in
          let z : ◌≡◌ {A = ℕ} 0 1 = cc in
          absurd (omega arith))
      | fails e ↦ simp e
    ]

    no_mark : bitmap_of x t (without routes p) ≡ 0
    no_mark = none_marked (taken_at x t (without routes p)) 64 (none_taken x t (without routes p) no_route)

    no_path : (j : ℕ) → member (x ++ row t j) (paths now.used) ≡ false
    no_path j =
        let q = x ++ row t j in
        let size = length-append x (row t j) in
        let rows = length_row t j in
        let some = t_some in
        let long = x_length in
        is_sound.served q ∙ put_required plan (without routes p) x 0 q ∙ elim (decided (member q (way (offsets plan) x))) [
          | holds e ↦ (let front = way_front (offsets plan) x q e in let l = front.1 in absurd (omega arith))
          | fails e ↦ simp e (elim (decided (member q below)) [
            | holds f ↦
                (let req = front_required plan (without routes p) q (suc k) planned_x (omega arith) f in
                let is : take (offset plan (suc k)) q ≡ x = take_at x (row t j) (offset plan (suc k)) long in
                let wrong : member x below ≡ true = subst (λ (y : Bits). member y below ≡ true) is req in
                let z : ◌≡◌ {A = ℕ} 0 1 = cc in
                absurd (omega arith))
            | fails f ↦ f
          ])
        ]

    no_child : (j : ℕ) → child_of now.used x t j ≡ 0
    no_child j = elim (decided (ltb j (2 ^ t))) [
      | holds e ↦ simp e (node_none now.used (x ++ row t j) (no_path j))
      | fails e ↦ simp e
    ]

    bare : (eqb (nodes.bitmap m) 0 && eqb (nodes.count m) 0) ≡ true
    bare =
        let b : nodes.bitmap m ≡ 0 = x_bitmap ∙ no_mark in
        let c : nodes.count m ≡ 0 = x_count ∙ count_none (child_of now.used x t) 64 no_child in
        simp (b, c)

  -- ---- a route is left at or beyond the path

  module _ (needed : member x below ≡ true) where
    -- it lies in the node
    some_mark : (q : Bits) → is_some (find (without routes p) q) ≡ true → take (length x) q ≡ x → length x ≤ length q
        → length q < length x + t → eqb (nodes.bitmap m) 0 ≡ false
    some_mark q there front l near =
        let rest = drop (length x) q in
        let left_over = length-drop (length x) q in
        let whole : x ++ rest ≡ q = ap (λ (y : Bits). y ++ rest) (sym front) ∙ take-append-drop (length x) q in
        let hop = hop_there x t rest (without routes p) (omega arith) t_small ∙ ap (find (without routes p)) whole in
        elim (decided (eqb (nodes.bitmap m) 0)) [
          | holds e ↦
              (let none : bitmap_of x t (without routes p) ≡ 0 = sym x_bitmap ∙ eqb-true (nodes.bitmap m) 0 e in
              let unmarked : marked (bitmap_of x t (without routes p)) (position rest) ≡ false =
              ap (λ b. marked b (position rest)) none ∙ zero_unmarked (position rest) in
              let nothing : None ≡ find (without routes p) q = simp unmarked at hop in
              let wrong : false ≡ true = ap is_some nothing ∙ there in
              let z : ◌≡◌ {A = ℕ} 0 1 = cc in
              absurd (omega arith))
          | fails e ↦ e
        ]

    -- one that is left was held before
    held_routes : (q : Bits) → is_some (find (without routes p) q) ≡ true → is_some (find routes q) ≡ true
    held_routes q there = elim (decided (same q p)) [
      | holds e ↦
          (let wrong : false ≡ true = ap is_some (sym (find_without routes p) ∙ ap (find (without routes p)) (sym (same_eq q p e))) ∙ there in
          let z : ◌≡◌ {A = ℕ} 0 1 = cc in
          absurd (omega arith))
      | fails e ↦ ap is_some (sym (find_without_other routes p q e)) ∙ there
    ]

    -- or a path goes on to it
    some_child : (q : Bits) → is_some (find (without routes p) q) ≡ true → take (length x) q ≡ x → length x + t ≤ length q
        → eqb (nodes.count m) 0 ≡ false
    some_child q there front far =
        let long = x_length in
        let next = offset_next plan (suc k) planned_x in
        let whole = offset_all plan in
        let total = (planned W plan can.planned).total in
        let within_q = held_short W routes q can.ranged (held_routes q there) in
        let one_more : suc (suc k) < length plan = elim (decided (ltb (suc (suc k)) (length plan))) [
          | holds e ↦ ltb-true (suc (suc k)) (length plan) e
          | fails e ↦
              (let past = ltb-false (suc (suc k)) (length plan) e in
              let at_end : suc (suc k) ≡ length plan = (let l = planned_x in omega arith) in
              let same_offset = ap (offset plan) at_end in
              absurd (omega arith))
        ] in
        let o = offset plan (suc k) in
        let cut = next_row q o t (omega arith) in
        let j = number (take t (drop o q)) in
        let y = x ++ row t j in
        let is : take (offset plan (suc (suc k))) q ≡ y =
        ap (λ b. take b q) next ∙ cut.0 ∙ ap (λ (z : Bits). z ++ row t j) (ap (λ b. take b q) (sym long) ∙ front) in
        let req : member y below ≡ true =
        subst (λ (z : Bits). member z below ≡ true) is (offset_required plan (without routes p) q (suc (suc k)) there one_more (omega arith)) in
        let has : member y (paths now.used) ≡ true =
        is_sound.served y ∙ put_required plan (without routes p) x 0 y ∙ or_right (member y (way (offsets plan) x)) (member y below) req in
        let size = length-append x (row t j) in
        let some = x_some in
        let child : child_of now.used x t j ≡ node_at now.used y = simp (lt-ltb j (2 ^ t) cut.1) in
        let low : 2 ^ t ≤ 2 ^ 6 = pow_mono t_small in
        let small = cut.1 in
        let used : eqb (node_at now.used y) 0 ≡ false = elim (decided (eqb (node_at now.used y) 0)) [
          | holds e ↦
              (let wrong = node_zero N plan (put (without routes p) x 0) now is_sound root_there y (omega arith) e in
              let z : ◌≡◌ {A = ℕ} 0 1 = cc in
              absurd (omega arith))
          | fails e ↦ e
        ] in
        let counted : 1 ≤ count_of (child_of now.used x t) 64 =
        count_some (child_of now.used x t) j 64 (omega arith) (ap (λ c. eqb c 0) child ∙ used) in
        let is_count = x_count in
        ne_eqb (nodes.count m) 0 (λ e. omega arith)

    not_bare : (eqb (nodes.bitmap m) 0 && eqb (nodes.count m) 0) ≡ false
    not_bare = ⊎_elim
        (λ (e : x ≡ []). let none = ap length e in let some = x_some in absurd (omega arith))
        (λ (b : Beneath plan (without routes p) x).
        let q = b.prefix in
        let reaches = b.reaches in
        let size = length-take-le (offset plan b.stride) q b.reaches in
        let long = ap length b.is in
        let front : take (length x) q ≡ x = ap (λ o. take o q) (let e : length x ≡ offset plan b.stride = omega arith in e) ∙ sym b.is in
        ⊎_elim
        (λ (near : length q < length x + t). simp (some_mark q b.held front (omega arith) near))
        (λ (far : length x + t ≤ length q). and_no (eqb (nodes.bitmap m) 0) (eqb (nodes.count m) 0) (some_child q b.held front far))
        (cases_lt (length q) (length x + t)))
        (which plan (without routes p) x needed)
      where
        and_no : (a b : Bool) → b ≡ false → (a && b) ≡ false
        and_no true b e = e
        and_no false b e = refl

  -- a node on the way has neither mark nor child exactly where no route is left at or beyond its path, those behind it being returned
  pub return_test : (eqb (nodes.bitmap m) 0 && eqb (nodes.count m) 0) ≡ not (member x below)
  return_test = elim (decided (member x below)) [
    | holds e ↦ simp e (not_bare e)
    | fails e ↦ simp e (bare e)
  ]

  -- ---- the node is returned

  -- all nodes are below N
  below_N : (a : ℕ) → listed a (nodes_of now.used ++ now.free) ≡ true → a < N
  below_N a there = ltb-true a N (sym (is_sound.each_node a) ∙ there)

  used_below : (z : Bits) → member z (paths now.used) ≡ true → node_at now.used z < N
  used_below z there =
      let a = node_at now.used z in
      below_N a (listed_append a (nodes_of now.used) now.free
      ∙ or_left (listed a (nodes_of now.used)) (listed a now.free) (node_listed now.used z there))

  pub m_small : m < N
  m_small = used_below x x_there

  n_small : n < N
  n_small = used_below up up_there

  f_small : front now.free < N
  f_small =
      front_below N now.free (let l = n_small in omega arith)
      (λ a there. below_N a (listed_append a (nodes_of now.used) now.free ∙ or_right (listed a (nodes_of now.used)) (listed a now.free) there))

  child_some : eqb (child_of now.used up s i) 0 ≡ false
  child_some = ap (λ c. eqb c 0) child_is ∙ not_zero

  up_some : 1 ≤ nodes.count n
  up_some = let c = up_count in let some = count_some (child_of now.used up s) i 64 i_small child_some in omega arith

  up_few : nodes.count n ≤ 64
  up_few = let c = up_count in let few = count_small (child_of now.used up s) 64 in omega arith

  -- a path in use is as long as an offset
  used_offset : (z : Bits) → member z (paths now.used) ≡ true → (b : ℕ) × (b < length plan) × (length z ≡ offset plan b)
  used_offset z there = ⊎_elim
      (λ (e : z ≡ []). (0, (let l = planned_x in omega arith), ap length e))
      (λ (y : Beneath plan (put (without routes p) x 0) z).
      (y.stride, y.planned, ap length y.is ∙ length-take-le (offset plan y.stride) y.prefix y.reaches))
      (which plan (put (without routes p) x 0) z (sym (is_sound.served z) ∙ there))

  -- only the parent's path goes on to that of the node
  parent : (z : Bits) (j : ℕ) → member z (paths now.used) ≡ true → z ++ row (stride_from 0 plan (length z)) j ≡ x → z ≡ up
  parent z j there e =
      let at_offset = used_offset z there in
      let b = at_offset.0 in
      let w = stride_from 0 plan (length z) in
      let long = at_offset.2 in
      let stride : w ≡ get_or plan b 0 = stride_at z b at_offset.1 at_offset.2 in
      let next = offset_next plan b at_offset.1 in
      let size = length-append z (row w j) in
      let rows = length_row w j in
      let whole = ap length e in
      let x_long = x_length in
      let level_is : suc b ≡ suc k = offset_same plan (suc b) (suc k) ok at_offset.1 (let l = planned_x in omega arith) (omega arith) in
      let same_offset : offset plan b ≡ offset plan k = ap (offset plan) (omega arith) in
      sym (take_at z (row w j) (length z) refl)
      ∙ ap (take (length z)) e
      ∙ ap (λ o. take o x) (long ∙ same_offset)
      ∙ on_front W plan can.planned p within k (suc k) (omega arith) deep

  module _ (gone : member x below ≡ false) where
    abbrev later : Placement
    later = returned x now

    later_sound : SoundPlacement N plan (put (without routes p) up 0) later
    later_sound =
        subst (λ (l : Placement). SoundPlacement N plan (put (without routes p) up 0) l)
        (one_returned W N plan routes at p h can sound held k deep gone) (return_sound W N plan routes at p h can sound held k (omega arith))

    m_free : path_at later.used m ≡ None
    m_free =
        free_unused N plan (put (without routes p) up 0) later later_sound (root_required plan (put (without routes p) up 0)) m
        (or_left (eqb m m) (listed m now.free) (eqb_self m))

    others_kept : (a : ℕ) → eqb a m ≡ false → path_at later.used a ≡ path_at now.used a
    others_kept a e = path_without now.used a x is_sound.single e

    -- ---- children

    -- other paths keep their nodes
    same_node : (q : Bits) → same q x ≡ false → node_at later.used q ≡ node_at now.used q
    same_node q e = without_node now.used x q e

    children_other : (z : Bits) (j : ℕ) → member z (paths now.used) ≡ true → same z up ≡ false
        → child_of later.used z (stride_from 0 plan (length z)) j ≡ child_of now.used z (stride_from 0 plan (length z)) j
    children_other z j there other =
        let w = stride_from 0 plan (length z) in
        elim (decided (ltb j (2 ^ w))) [
          | holds e ↦ simp e (same_node (z ++ row w j) (elim (decided (same (z ++ row w j) x)) [
            | holds g ↦
                (let wrong : same z up ≡ true = ap (λ (y : Bits). same y up) (parent z j there (same_eq (z ++ row w j) x g)) ∙ same_self up in
                let z : ◌≡◌ {A = ℕ} 0 1 = cc in
                absurd (omega arith))
            | fails g ↦ g
          ]))
          | fails e ↦ simp e
        ]

    child_gone : child_of later.used up s i ≡ 0
    child_gone = simp (lt-ltb i (2 ^ s) x_row.1) (ap (node_at later.used) (sym x_row.0) ∙ node_gone now.used x)

    children_up : (j : ℕ) → eqb j i ≡ false → child_of later.used up s j ≡ child_of now.used up s j
    children_up j other = elim (decided (ltb j (2 ^ s))) [
      | holds e ↦ simp e (same_node (up ++ row s j) (elim (decided (same (up ++ row s j) x)) [
        | holds g ↦
            (let is : j ≡ i =
            rows_apart up s j i (ltb-true j (2 ^ s) e) x_row.1 (same_eq (up ++ row s j) x g ∙ x_row.0) in
            absurd (eqb-false j i other is))
        | fails g ↦ g
      ]))
      | fails e ↦ simp e
    ]

    -- ---- fields

    -- a field that the routes settle
    field_kept : (F : Bits → ℕ → ℕ) → F x t ≡ 0 → (a : ℕ)
        → field plan (path_at later.used a) F 0 ≡ field plan (path_at now.used a) F 0
    field_kept F none a = elim (decided (eqb a m)) [
      | holds e ↦
          (let is = eqb-true a m e in
          let was : field plan (path_at now.used m) F 0 ≡ 0 = simp (x_own, x_stride) none in
          let then : field plan (path_at later.used m) F 0 ≡ 0 = simp m_free in
          ap (λ b. field plan (path_at later.used b) F 0) is ∙ then ∙ sym (ap (λ b. field plan (path_at now.used b) F 0) is ∙ was))
      | fails e ↦ ap (λ (o : Option Bits). field plan o F 0) (others_kept a e)
    ]

    -- another node than the parent has another path
    path_used : (a : ℕ) (z : Bits) → path_at now.used a ≡ Some z → eqb a n ≡ false
        → (member z (paths now.used) ≡ true) × (same z up ≡ false)
    path_used a z e other = (
      path_member now.used a z e,
      elim (decided (same z up)) [
        | holds g ↦
            (let is : n ≡ a = ap (node_at now.used) (sym (same_eq z up g)) ∙ node_of_path now.used a z is_sound.single e in
            absurd (eqb-false a n other (sym is)))
        | fails g ↦ g
      ],
    )

    not_n : eqb m n ≡ false
    not_n = ne_eqb m n (λ e. eqb-false n m apart (sym e))

    -- the number of children
    counts : (a : ℕ)
        → field plan (path_at later.used a) (λ z w. count_of (child_of later.used z w) 64) 0
        ≡ cond (eqb a n) (nodes.count n - 1) (nodes.count a)
    unfolding image
    counts a = elim (decided (eqb a m)) [
      | holds e ↦
          (let is = eqb-true a m e in
          let none : nodes.count m ≡ 0 = x_count ∙ count_none (child_of now.used x t) 64 (no_child gone) in
          subst (λ b. field plan (path_at later.used b) (λ z w. count_of (child_of later.used z w) 64) 0
          ≡ cond (eqb b n) (nodes.count n - 1) (nodes.count b)) (sym is)
          (simp (m_free, not_n) (sym none)))
      | fails e ↦ elim (decided (eqb a n)) [
        | holds g ↦
            (let is = eqb-true a n g in
            let less = count_less (child_of now.used up s) (child_of later.used up s) i 64 i_small child_some child_gone children_up in
            let was : path_at later.used n ≡ Some up = others_kept n apart ∙ up_own in
            simp g (ap (λ b. field plan (path_at later.used b) (λ z w. count_of (child_of later.used z w) 64) 0) is
            ∙ simp (was, up_stride) less ∙ ap (λ c. c - 1) (sym up_count)))
        | fails g ↦
            simp (g, others_kept a e)
            (by (path_at now.used a) refl g)
      ]
    ]
      where
        by : (o : Option Bits) → path_at now.used a ≡ o → eqb a n ≡ false
            → field plan o (λ z w. count_of (child_of later.used z w) 64) 0 ≡ field plan o (λ z w. count_of (child_of now.used z w) 64) 0
        by None e g = refl
        by (Some z) e g =
            let there = path_used a z e g in
            let w = stride_from 0 plan (length z) in
            count_same (child_of now.used z w) (child_of later.used z w) 64 (λ j l. children_other z j there.0 there.1)

    -- the children: of the node itself, of its parent, and of any
    children_m : (j : ℕ)
        → field plan (path_at later.used m) (λ z w. child_of later.used z w j) (cond (eqb j 0) (link_in later.free m) 0)
        ≡ cond (eqb m m && eqb j 0) (front now.free) (cond (eqb m n && eqb j i) 0 (nodes.child m j))
    unfolding image
    children_m j = elim (decided (eqb j 0)) [
      | holds e ↦ simp (m_free, eqb_self m, e)
      | fails e ↦ simp (m_free, eqb_self m, e, not_n) (sym (simp (x_own, x_stride) (no_child gone j)))
    ]

    children_n : (j : ℕ)
        → field plan (path_at later.used n) (λ z w. child_of later.used z w j) (cond (eqb j 0) (link_in later.free n) 0)
        ≡ cond (eqb n m && eqb j 0) (front now.free) (cond (eqb n n && eqb j i) 0 (nodes.child n j))
    children_n j =
        let there : path_at later.used n ≡ Some up = others_kept n apart ∙ up_own in
        simp (there, up_stride, apart, eqb_self n) (elim (decided (eqb j i)) [
          | holds e ↦ simp e (ap (child_of later.used up s) (eqb-true j i e) ∙ child_gone)
          | fails e ↦ simp e (children_up j e ∙ sym (up_child j))
        ])

    children : (a j : ℕ)
        → field plan (path_at later.used a) (λ z w. child_of later.used z w j) (cond (eqb j 0) (link_in later.free a) 0)
        ≡ cond (eqb a m && eqb j 0) (front now.free) (cond (eqb a n && eqb j i) 0 (nodes.child a j))
    unfolding image
    children a j = elim (decided (eqb a m)) [
      | holds e ↦
          subst (λ b. field plan (path_at later.used b) (λ z w. child_of later.used z w j) (cond (eqb j 0) (link_in later.free b) 0)
          ≡ cond (eqb b m && eqb j 0) (front now.free) (cond (eqb b n && eqb j i) 0 (nodes.child b j)))
          (sym (eqb-true a m e)) (children_m j)
      | fails e ↦ elim (decided (eqb a n)) [
        | holds g ↦
            subst (λ b. field plan (path_at later.used b) (λ z w. child_of later.used z w j) (cond (eqb j 0) (link_in later.free b) 0)
            ≡ cond (eqb b m && eqb j 0) (front now.free) (cond (eqb b n && eqb j i) 0 (nodes.child b j)))
            (sym (eqb-true a n g)) (children_n j)
        | fails g ↦ simp (e, g, others_kept a e) (by (path_at now.used a) refl g)
      ]
    ]
      where
        by : (o : Option Bits) → path_at now.used a ≡ o → eqb a n ≡ false
            → field plan o (λ z w. child_of later.used z w j) (cond (eqb j 0) (link_in now.free a) 0)
            ≡ field plan o (λ z w. child_of now.used z w j) (cond (eqb j 0) (link_in now.free a) 0)
        by None e g = refl
        by (Some z) e g = let there = path_used a z e g in children_other z j there.0 there.1

    -- the image with the node returned
    pub returned_image : image N plan (without routes p) later ≡ returned_node nodes m n i (front now.free)
    unfolding image
    returned_image = λ d. record {
      size = N;
      bitmap = λ a. field_kept (λ z w. bitmap_of z w (without routes p)) (no_mark gone) a d;
      count = λ a. counts a d;
      child = λ a j. children a j d;
      hop = λ a j. field_kept (λ z w. hop_in z w (without routes p) j) (none_hop x t (without routes p) (no_route gone) j) a d;
    }

    returns : Returns N plan (without routes p) p k now later
    returns = record {
      next = returned_image;
      free = refl;
      node = same_node up (elim (decided (same up x)) [
        | holds e ↦ absurd (on_apart W plan can.planned p within k (suc k) (omega arith) deep (same_eq up x e))
        | fails e ↦ e
      ]);
      some = eqb-false m 0 not_zero;
      bounds = (m_small, n_small, f_small, i_small);
      count = (up_some, up_few);
      apart = apart;
      child = up_child i ∙ child_is;
    }

    -- one step of a delete: the node of the path behind the k-th is returned
    pub return_step : Returns N plan (without routes p) p k now (delete_at plan (without routes p) p at k)
    return_step =
        subst (λ (l : Placement). Returns N plan (without routes p) p k now l)
        (sym (one_returned W N plan routes at p h can sound held k deep gone)) returns
