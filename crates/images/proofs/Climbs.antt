-- The paths on the way of a prefix, counted from the root down: which of them some routes require, and what is returned along them.
use Rattle.std.proofs.Common.{◌≡◌, ℕ, zero, suc, ◌+◌, ◌-◌, ◌<◌, ◌≤◌, Bool, true, false, ◌||◌, ltb, ◌⊎◌, List, [], ◌∷◌, length, get_or, take, sym, refl, ap, ◌∙◌, ap₂, subst, inl, inr, ⊎_elim, le_of_suc-le-suc, not-suc-le-zero, length-take-le, take-take, arith}
use Rattle.std.proofs.lemmas.Bool.{cases_order, or_left, or_right, le-leb, ltb-true, ltb-false}
use Rattle.bits.specs.Rows.{Bits}
use Rattle.bits.specs.Order.{same}
use Rattle.bits.proofs.Orders.{holds, fails, decided, same_eq, same_self}
use Rattle.laws.proofs.Plans.{planned, ranged}
use Rattle.laws.proofs.Levels.{place_laws, somewhere}
use Rattle.laws.proofs.Paths.{member_append, or_swap, put_members}
use Rattle.laws.proofs.Required.{offset_required, required_cases, step_way, which}
use Rattle.laws.proofs.Ways.{root_required, way_front}
use Rattle.laws.specs.Required.{Beneath}
use Rattle.model.specs.Placements.{Placement, node_at, return_all, without_path}
use Rattle.model.specs.Places.{Lies, indexes, level}
use Rattle.model.specs.Plans.{in_range, offset, offsets, offsets_from, plan_ok, sum}
use Rattle.model.specs.Required.{Single, fresh, member, required_paths, way, ways}
use Rattle.model.specs.Routes.{Routes, put}
use Rattle.images.specs.Steps.{path_of}
use Rattle.walks.proofs.Trails.{way_none}

-- ---- offsets

-- the next offset is a stride further
pub offset_next : (plan : List ℕ) (k : ℕ) → k < length plan → offset plan (suc k) ≡ offset plan k + get_or plan k 0
offset_next [] k h = absurd (not-suc-le-zero h)
offset_next (s ∷ ss) zero h = omega arith
offset_next (s ∷ ss) (suc k) h = let rest = offset_next ss k (le_of_suc-le-suc h) in omega arith

-- a later stride has a larger offset
pub offset_above : (plan : List ℕ) (j k : ℕ) → in_range plan ≡ true → j < k → k ≤ length plan → offset plan j < offset plan k
offset_above [] j k r h l = absurd (omega arith)
offset_above (s ∷ ss) j zero r h l = absurd (not-suc-le-zero h)
offset_above (s ∷ ss) zero (suc k) r h l = let low = (ranged s ss r).low in omega arith
offset_above (s ∷ ss) (suc j) (suc k) r h l =
    let rest = offset_above ss j k (ranged s ss r).rest (le_of_suc-le-suc h) (le_of_suc-le-suc l) in
    omega arith

-- equal offsets are those of one stride
pub offset_same : (plan : List ℕ) (j k : ℕ) → in_range plan ≡ true → j ≤ length plan → k ≤ length plan
    → offset plan j ≡ offset plan k → j ≡ k
offset_same plan j k r h l e = by (cases_order j k)
  where
    by : (j ≡ k) ⊎ ((j < k) ⊎ (k < j)) → j ≡ k
    by (inl i) = i
    by (inr (inl i)) = (let wrong = offset_above plan j k r i l in absurd (omega arith))
    by (inr (inr i)) = (let wrong = offset_above plan k j r i h in absurd (omega arith))

-- behind the last stride they come to the sum of all
pub offset_all : (plan : List ℕ) → offset plan (length plan) ≡ sum plan
offset_all [] = refl
offset_all (s ∷ ss) = ap (λ k. s + k) (offset_all ss)

-- each stride is 1 to 6
pub stride_range : (plan : List ℕ) (k : ℕ) → in_range plan ≡ true → k < length plan → (1 ≤ get_or plan k 0) × (get_or plan k 0 ≤ 6)
stride_range [] k r h = absurd (not-suc-le-zero h)
stride_range (s ∷ ss) zero r h = let range = ranged s ss r in (range.low, range.high)
stride_range (s ∷ ss) (suc k) r h = stride_range ss k (ranged s ss r).rest (le_of_suc-le-suc h)

-- ---- the way as a row of paths

-- so many paths, counted from a first one on
abbrev pub down : (ℕ → Bits) → ℕ → ℕ → List Bits
down f a zero = []
down f a (suc c) = f a ∷ down f (suc a) c

down_later : (f : ℕ → Bits) (a c : ℕ) → down (λ k. f (suc k)) a c ≡ down f (suc a) c
down_later f a zero = refl
down_later f a (suc c) = ap (λ (l : List Bits). f (suc a) ∷ l) (down_later f (suc a) c)

down_same : (f g : ℕ → Bits) → ((k : ℕ) → f k ≡ g k) → (a c : ℕ) → down f a c ≡ down g a c
down_same f g e a zero = refl
down_same f g e a (suc c) = λ i. e a i ∷ down_same f g e (suc a) c i

-- the way from an offset on, as such a row
way_from : (ss : List ℕ) (o : ℕ) (p : Bits) → o ≤ length p → length p < o + sum ss
    → way (offsets_from o ss) p ≡ down (λ k. take (o + offset ss k) p) 0 (suc (level ss (length p - o)))
way_from [] o p h l = absurd (omega arith)
way_from (s ∷ ss) o p h l =
    let first : o + 0 ≡ o = omega arith in
    simp (le-leb o (length p) h) (elim (decided (ltb (length p - o) s)) [
      | holds e ↦ simp (e, first)
          (let near = ltb-true (length p - o) s e in
          ap (λ (l : List Bits). take o p ∷ l) (way_none ss (o + s) p (omega arith)))
      | fails e ↦
          simp (e, first)
          (let far = ltb-false (length p - o) s e in
          let left : length p - (o + s) ≡ length p - o - s = omega arith in
          ap (λ (l : List Bits). take o p ∷ l)
          (way_from ss (o + s) p (omega arith) (omega arith)
          ∙ ap (λ k. down (λ j. take (o + s + offset ss j) p) 0 (suc (level ss k))) left
          ∙ down_same (λ j. take (o + s + offset ss j) p) (λ j. take (o + (s + offset ss j)) p)
          (λ j. ap (λ k. take k p) (let e : o + s + offset ss j ≡ o + (s + offset ss j) = omega arith in e)) 0 (suc (level ss (length p - o - s)))
          ∙ down_later (λ j. take (o + offset (s ∷ ss) j) p) 0 (suc (level ss (length p - o - s)))))
    ])

-- ---- what is returned along a row

pub at_or_behind : (a k : ℕ) → a ≤ k → (a ≡ k) ⊎ (a < k)
at_or_behind a k h = by (cases_order a k)
  where
    by : (a ≡ k) ⊎ ((a < k) ⊎ (k < a)) → (a ≡ k) ⊎ (a < k)
    by (inl e) = inl e
    by (inr (inl e)) = inr e
    by (inr (inr e)) = absurd (omega arith)

-- the node of one path more goes to the front of the chain
abbrev pub returned : Bits → Placement → Placement
returned q then = record { used = without_path then.used q; free = node_at then.used q ∷ then.free }

module _ (f : ℕ → Bits) where
  -- what is in such a row, and how many
  pub down_member : (a c k : ℕ) → a ≤ k → k < a + c → member (f k) (down f a c) ≡ true
  down_member a zero k h l = absurd (omega arith)
  down_member a (suc c) k h l = ⊎_elim
      (λ (e : a ≡ k). or_left (same (f k) (f a)) (member (f k) (down f (suc a) c)) (ap (λ j. same (f k) (f j)) e ∙ same_self (f k)))
      (λ (e : a < k). or_right (same (f k) (f a)) (member (f k) (down f (suc a) c)) (down_member (suc a) c k e (omega arith)))
      (at_or_behind a k h)

  pub down_which : (a c : ℕ) (q : Bits) → member q (down f a c) ≡ true → (k : ℕ) × (a ≤ k) × (k < a + c) × (q ≡ f k)
  down_which a zero q h = let z : ◌≡◌ {A = ℕ} 0 1 = cc in absurd (omega arith)
  down_which a (suc c) q h = elim (decided (same q (f a))) [
    | holds e ↦ (a, omega arith, omega arith, same_eq q (f a) e)
    | fails e ↦
        (let rest = down_which (suc a) c q (simp e at h) in
        let low = rest.1 in
        let high = rest.2 in
        (rest.0, omega arith, omega arith, rest.3))
  ]

  pub down_length : (a c : ℕ) → length (down f a c) ≡ c
  down_length a zero = refl
  down_length a (suc c) = ap suc (down_length (suc a) c)

  -- each stands once, where they are all different
  pub down_single : (a c : ℕ) → ((j k : ℕ) → j < k → k < a + c → f j ≡ f k → ⊥) → Single (down f a c)
  down_single a zero h = tt
  down_single a (suc c) h = (
    elim (decided (member (f a) (down f (suc a) c))) [
      | holds e ↦ (let twice = down_which (suc a) c (f a) e in absurd (h a twice.0 twice.1 (let l = twice.2 in omega arith) twice.3))
      | fails e ↦ e
    ],
    down_single (suc a) c (λ j k l m. h j k l (omega arith)),
  )

  -- nothing, where all are kept
  pub return_kept : (kept : List Bits) (a c : ℕ) (at : Placement) → ((k : ℕ) → a ≤ k → k < a + c → member (f k) kept ≡ true)
      → return_all kept (down f a c) at ≡ at
  return_kept kept a zero at h = refl
  return_kept kept a (suc c) at h =
      simp (h a (omega arith) (omega arith)) (return_kept kept (suc a) c at (λ k i l. h k (omega arith) (omega arith)))

  -- the same, where the same are kept
  pub return_same : (kept others : List Bits) (a c : ℕ) (at : Placement)
      → ((k : ℕ) → a ≤ k → k < a + c → member (f k) kept ≡ member (f k) others)
      → return_all kept (down f a c) at ≡ return_all others (down f a c) at
  return_same kept others a zero at h = refl
  return_same kept others a (suc c) at h =
      let rest = return_same kept others (suc a) c at (λ k i l. h k (omega arith) (omega arith)) in
      simp (h a (omega arith) (omega arith), rest)

  -- one node more, that of the deepest path which was kept and no longer is
  pub return_one : (kept others : List Bits) (b a c : ℕ) (at : Placement) → a ≤ b → b < a + c
      → ((k : ℕ) → a ≤ k → k < b → (member (f k) kept ≡ true) × (member (f k) others ≡ true))
      → (member (f b) kept ≡ false) × (member (f b) others ≡ true)
      → ((k : ℕ) → b < k → k < a + c → member (f k) kept ≡ member (f k) others)
      → return_all kept (down f a c) at ≡ returned (f b) (return_all others (down f a c) at)
  return_one kept others b a zero at h l above here below = absurd (omega arith)
  return_one kept others b a (suc c) at h l above here below = ⊎_elim
      (λ (e : a ≡ b).
      let rest = return_same kept others (suc a) c at (λ k i j. below k (omega arith) (omega arith)) in
      let gone : member (f a) kept ≡ false = ap (λ k. member (f k) kept) e ∙ here.0 in
      let stays : member (f a) others ≡ true = ap (λ k. member (f k) others) e ∙ here.1 in
      simp (gone, stays, rest, ← e))
      (λ (e : a < b).
      let both = above a (omega arith) e in
      simp (both.0, both.1)
      (return_one kept others b (suc a) c at e (omega arith) (λ k i j. above k (omega arith) j) here (λ k i j. below k i (omega arith))))
      (at_or_behind a b h)

  -- which are not among others: those behind the first ones
  pub fresh_none : (R : List Bits) (a c : ℕ) → ((k : ℕ) → a ≤ k → k < a + c → member (f k) R ≡ false)
      → fresh (down f a c) R ≡ down f a c
  fresh_none R a zero h = refl
  fresh_none R a (suc c) h =
      simp (h a (omega arith) (omega arith)) (ap (λ (l : List Bits). f a ∷ l) (fresh_none R (suc a) c (λ k i l. h k (omega arith) (omega arith))))

  pub fresh_behind : (R : List Bits) (a d c : ℕ) → ((k : ℕ) → a ≤ k → k < a + d → member (f k) R ≡ true)
      → fresh (down f a (d + c)) R ≡ fresh (down f (a + d) c) R
  fresh_behind R a zero c h = ap₂ (λ b d. fresh (down f b d) R) (omega arith) (omega arith)
  fresh_behind R a (suc d) c h =
      let more : suc d + c ≡ suc (d + c) = omega arith in
      let whole : suc a + d ≡ a + suc d = omega arith in
      ap (λ k. fresh (down f a k) R) more
      ∙ simp (h a (omega arith) (omega arith))
      (fresh_behind R (suc a) d c (λ k i l. h k (omega arith) (omega arith)) ∙ ap (λ k. fresh (down f k c) R) whole)

-- ---- which paths on the way are required

-- the front of a required path at an offset is required
pub front_required : (plan : List ℕ) (rs : Routes) (q : Bits) (k : ℕ) → k < length plan → offset plan k ≤ length q
    → member q (required_paths plan rs) ≡ true → member (take (offset plan k) q) (required_paths plan rs) ≡ true
front_required plan rs q k l r m = ⊎_elim
    (λ (e : q ≡ []).
    let none : take (offset plan k) q ≡ [] = ap (take (offset plan k)) e ∙ take_nothing (offset plan k) in
    ap (λ (x : Bits). member x (required_paths plan rs)) none ∙ root_required plan rs)
    (λ (x : Beneath plan rs q).
    let size = ap length x.is ∙ length-take-le (offset plan x.stride) x.prefix x.reaches in
    let front : take (offset plan k) q ≡ take (offset plan k) x.prefix =
    ap (take (offset plan k)) x.is ∙ take-take (offset plan k) (offset plan x.stride) x.prefix (omega arith) in
    let reaches = x.reaches in
    ap (λ (y : Bits). member y (required_paths plan rs)) front ∙ offset_required plan rs x.prefix k x.held l (omega arith))
    (which plan rs q m)
  where
    take_nothing : (n : ℕ) → take {A = Bool} n [] ≡ []
    take_nothing zero = refl
    take_nothing (suc n) = refl

-- a route more requires its own way
pub put_required : (plan : List ℕ) (rs : Routes) (p : Bits) (h : ℕ) (q : Bits)
    → member q (required_paths plan (put rs p h)) ≡ (member q (way (offsets plan) p) || member q (required_paths plan rs))
put_required plan rs p h q =
    let w = member q (way (offsets plan) p) in
    required_cases plan (put rs p h) q
    ∙ ap (λ t. same q [] || t) (put_members (offsets plan) rs p h q ∙ member_append q (way (offsets plan) p) (ways (offsets plan) rs))
    ∙ or_swap (same q []) w (member q (ways (offsets plan) rs))
    ∙ ap (λ t. w || t) (sym (required_cases plan rs q))

module _ (W : ℕ) (plan : List ℕ) (ok : plan_ok W plan ≡ true) (p : Bits) (short : length p ≤ W) where
  abbrev last : ℕ
  last = level plan (length p)

  abbrev range : in_range plan ≡ true
  range = (planned W plan ok).range

  lies : Lies plan last (length p)
  lies = let total = (planned W plan ok).total in somewhere plan (length p) (omega arith)

  -- each offset on the way is that of a stride, and the prefix reaches it
  pub on_plan : (k : ℕ) → k ≤ last → k < length plan
  on_plan k h = let l = lies.0 in omega arith

  pub on_reach : (k : ℕ) → k ≤ last → offset plan k ≤ length p
  on_reach k h = ⊎_elim
      (λ (e : k ≡ last). subst (λ j. offset plan j ≤ length p) (sym e) lies.1)
      (λ (e : k < last). let a = offset_above plan k last range e (let l = lies.0 in omega arith) in let l = lies.1 in omega arith)
      (at_or_behind k last h)

  pub on_length : (k : ℕ) → k ≤ last → length (path_of plan p k) ≡ offset plan k
  on_length k h = length-take-le (offset plan k) p (on_reach k h)

  -- these are the paths on the way
  pub way_down : way (offsets plan) p ≡ down (path_of plan p) 0 (suc last)
  way_down =
      let total = (planned W plan ok).total in
      let none : length p - 0 ≡ length p = omega arith in
      way_from plan 0 p (omega arith) (omega arith)
      ∙ ap (λ k. down (λ j. take (0 + offset plan j) p) 0 (suc (level plan k))) none
      ∙ down_same (λ j. take (0 + offset plan j) p) (path_of plan p)
      (λ j. ap (λ k. take k p) (let e : 0 + offset plan j ≡ offset plan j = omega arith in e)) 0 (suc last)

  pub indexes_down : length (indexes plan p) ≡ last
  indexes_down = place_laws.one_index_each W plan p ok short

  -- the paths of two strides differ
  pub on_apart : (j k : ℕ) → j < k → k ≤ last → path_of plan p j ≡ path_of plan p k → ⊥
  on_apart j k l h e =
      let a = on_length j (omega arith) in
      let b = on_length k h in
      let c = ap length e in
      let d = offset_above plan j k range l (let i = on_plan k h in omega arith) in
      omega arith

  offset_grows : (j k : ℕ) → j ≤ k → k ≤ last → offset plan j ≤ offset plan k
  offset_grows j k l h = ⊎_elim
      (λ (e : j ≡ k). subst (λ i. offset plan j ≤ offset plan i) e (omega arith))
      (λ (e : j < k). let a = offset_above plan j k range e (let i = on_plan k h in omega arith) in omega arith)
      (at_or_behind j k l)

  -- the front of one at an offset above is the path there
  pub on_front : (j k : ℕ) → j ≤ k → k ≤ last → take (offset plan j) (path_of plan p k) ≡ path_of plan p j
  on_front j k l h = take-take (offset plan j) (offset plan k) p (offset_grows j k l h)

  -- on the way of one are those above it, and none below
  pub on_way : (j k : ℕ) → j ≤ k → k ≤ last → member (path_of plan p j) (way (offsets plan) (path_of plan p k)) ≡ true
  on_way j k l h =
      let none : 0 + offset plan j ≡ offset plan j = omega arith in
      let size = on_length k h in
      let more = offset_grows j k l h in
      subst (λ (x : Bits). member x (way (offsets plan) (path_of plan p k)) ≡ true) (on_front j k l h)
      (subst (λ i. member (take i (path_of plan p k)) (way (offsets plan) (path_of plan p k)) ≡ true) none
      (step_way 0 plan (path_of plan p k) j (on_plan j (omega arith)) (omega arith)))

  pub off_way : (j k : ℕ) → k < j → j ≤ last → member (path_of plan p j) (way (offsets plan) (path_of plan p k)) ≡ false
  off_way j k l h = elim (decided (member (path_of plan p j) (way (offsets plan) (path_of plan p k)))) [
    | holds e ↦
        (let front = way_front (offsets plan) (path_of plan p k) (path_of plan p j) e in
        let a = on_length j h in
        let b = on_length k (omega arith) in
        let c = offset_above plan k j range l (let i = on_plan j h in omega arith) in
        let d = front.1 in
        absurd (omega arith))
    | fails e ↦ e
  ]

  module _ (left : Routes) where
    -- where a path is required, so are those above it
    pub needed_up : (j k : ℕ) → j ≤ k → k ≤ last → member (path_of plan p k) (required_paths plan left) ≡ true
        → member (path_of plan p j) (required_paths plan left) ≡ true
    needed_up j k l h m =
        let size = on_length k h in
        let more = offset_grows j k l h in
        subst (λ (x : Bits). member x (required_paths plan left) ≡ true) (on_front j k l h)
        (front_required plan left (path_of plan p k) j (on_plan j (omega arith)) (omega arith) m)

    -- the root always is
    pub root_needed : member (path_of plan p 0) (required_paths plan left) ≡ true
    root_needed = root_required plan left

    -- with the k-th path put in, those down to it are required, and the deeper ones where they were
    pub kept_above : (j k : ℕ) → j ≤ k → k ≤ last → member (path_of plan p j) (required_paths plan (put left (path_of plan p k) 0)) ≡ true
    kept_above j k l h =
        put_required plan left (path_of plan p k) 0 (path_of plan p j)
        ∙ or_left (member (path_of plan p j) (way (offsets plan) (path_of plan p k))) (member (path_of plan p j) (required_paths plan left))
        (on_way j k l h)

    pub kept_below : (j k : ℕ) → k < j → j ≤ last
        → member (path_of plan p j) (required_paths plan (put left (path_of plan p k) 0)) ≡ member (path_of plan p j) (required_paths plan left)
    kept_below j k l h = put_required plan left (path_of plan p k) 0 (path_of plan p j) ∙ simp (off_way j k l h)
