-- The paths on the way of a prefix: its first bits at the offset of each stride up to the one where it lies.
use Rattle.std.proofs.Common.{◌≡◌, ℕ, zero, suc, ◌+◌, ◌^◌, ◌<◌, ◌≤◌, true, false, ◌||◌, eqb, ◌⊎◌, List, [], ◌∷◌, ◌++◌, length, get_or, take, drop, map, sym, refl, ap, ◌∙◌, ap₂, subst, inl, inr, ⊎_elim, not-suc-le-zero, le_of_suc-le-suc, add_assoc, zero-add, arith, length-drop, length-take-le, take-take, take-add}
use Rattle.std.proofs.lemmas.Bool.{cases_eq, eqb-true, le-leb, or_cases, or_left, or_right}
use Rattle.bits.specs.Rows.{Bits, number, row}
use Rattle.bits.specs.Order.{same}
use Rattle.bits.proofs.Orders.{holds, fails, decided, number_lt}
use Rattle.bits.proofs.Prefixes.{row_number}
use Rattle.laws.specs.Required.{Beneath}
use Rattle.laws.proofs.Levels.{place_laws, somewhere}
use Rattle.laws.proofs.Paths.{member_append, or_swap, put_members}
use Rattle.laws.proofs.Plans.{planned, ranged}
use Rattle.laws.proofs.Required.{fewer_paths, offset_required, required_cases, step_way, way_step, which}
use Rattle.laws.proofs.Singles.{required_single, single_distinct}
use Rattle.laws.proofs.Ways.{root_required, stride_before, way_front}
use Rattle.model.specs.Places.{Lies, indexes, level, path_to}
use Rattle.model.specs.Placements.{Place, node_at, stride_from}
use Rattle.model.specs.Plans.{in_range, offset, offsets, offsets_from, plan_ok}
use Rattle.model.specs.Required.{distinct, fresh, member, required, required_paths, way, ways}
use Rattle.model.specs.Routes.{Routes, put}
use Rattle.walks.specs.Trails.{serving}
use Rattle.walks.proofs.Trails.{way_none}
use Rattle.images.specs.Steps.{ServedTo, path_of, served}

-- ---- offsets

-- the next offset is a stride further, and none is below one before it
pub offset_next : (ss : List ℕ) (k : ℕ) → k < length ss → offset ss (suc k) ≡ offset ss k + get_or ss k 0
offset_next [] k h = absurd (not-suc-le-zero h)
offset_next (s ∷ ss) zero h = omega arith
offset_next (s ∷ ss) (suc k) h = let rest = offset_next ss k (le_of_suc-le-suc h) in omega arith

pub offset_grows : (ss : List ℕ) (j k : ℕ) → j ≤ k → offset ss j ≤ offset ss k
offset_grows ss zero k h = omega arith
offset_grows ss (suc j) zero h = absurd (omega arith)
offset_grows [] (suc j) (suc k) h = omega arith
offset_grows (s ∷ ss) (suc j) (suc k) h = let rest = offset_grows ss j k (le_of_suc-le-suc h) in omega arith

pub offset_less : (ss : List ℕ) (k : ℕ) → in_range ss ≡ true → k < length ss → offset ss k < offset ss (suc k)
offset_less [] k r h = absurd (not-suc-le-zero h)
offset_less (s ∷ ss) zero r h = let range = ranged s ss r in let low = range.low in omega arith
offset_less (s ∷ ss) (suc k) r h =
    let range = ranged s ss r in
    let rest = offset_less ss k range.rest (le_of_suc-le-suc h) in
    omega arith

-- each stride is 1 to 6
pub stride_most : (ss : List ℕ) (k : ℕ) → in_range ss ≡ true → k < length ss → get_or ss k 0 ≤ 6
stride_most [] k r h = absurd (not-suc-le-zero h)
stride_most (s ∷ ss) zero r h = (ranged s ss r).high
stride_most (s ∷ ss) (suc k) r h = stride_most ss k (ranged s ss r).rest (le_of_suc-le-suc h)

pub stride_least : (ss : List ℕ) (k : ℕ) → in_range ss ≡ true → k < length ss → 1 ≤ get_or ss k 0
stride_least [] k r h = absurd (not-suc-le-zero h)
stride_least (s ∷ ss) zero r h = (ranged s ss r).low
stride_least (s ∷ ss) (suc k) r h = stride_least ss k (ranged s ss r).rest (le_of_suc-le-suc h)

-- the stride that ends at an offset is the one before it
pub stride_ends : (o : ℕ) (ss : List ℕ) (k n : ℕ) → in_range ss ≡ true → k < length ss → 1 ≤ stride_from o ss n
    → n + stride_from o ss n ≡ o + offset ss (suc k) → n ≡ o + offset ss k
stride_ends o [] k n r h some e = absurd (not-suc-le-zero h)
stride_ends o (s ∷ ss) k n r h some e = elim (decided (eqb n o)) [
  | holds t ↦ first k h (eqb-true n o t) (simp t at e)
  | fails t ↦
      later (λ (j : ℕ) (l : j < length ss). stride_ends (o + s) ss j n (ranged s ss r).rest l) k h (simp t at some) (simp t at e)
]
  where
    first : (k : ℕ) → k < suc (length ss) → n ≡ o → n + s ≡ o + (s + offset ss k) → n ≡ o + offset (s ∷ ss) k
    first zero h i e = omega arith
    first (suc k) h i e =
        let range = ranged s ss r in
        let more = offset_less ss k range.rest (le_of_suc-le-suc h) in
        absurd (omega arith)

    early : 1 ≤ stride_from (o + s) ss n → n < o + s → ⊥
    early some l = let none = stride_before ss (o + s) n l in omega arith

    later : ((j : ℕ) → j < length ss → 1 ≤ stride_from (o + s) ss n → n + stride_from (o + s) ss n ≡ o + s + offset ss (suc j)
        → n ≡ o + s + offset ss j)
        → (k : ℕ) → k < suc (length ss) → 1 ≤ stride_from (o + s) ss n → n + stride_from (o + s) ss n ≡ o + (s + offset ss k)
        → n ≡ o + offset (s ∷ ss) k
    later below zero h some e = absurd (early some (omega arith))
    later below (suc k) h some e =
        let rest = below k (le_of_suc-le-suc h) some (omega arith) in
        omega arith

-- ---- the first paths on a way

-- the first bits of a prefix at the offsets of so many strides
abbrev pub firsts : ℕ → List ℕ → Bits → ℕ → List Bits
firsts o ss p zero = []
firsts o [] p (suc n) = []
firsts o (s ∷ ss) p (suc n) = take o p ∷ firsts (o + s) ss p n

-- they are so many
pub firsts_length : (o : ℕ) (ss : List ℕ) (p : Bits) (n : ℕ) → n ≤ length ss → length (firsts o ss p n) ≡ n
firsts_length o ss p zero h = refl
firsts_length o [] p (suc n) h = absurd (not-suc-le-zero h)
firsts_length o (s ∷ ss) p (suc n) h = ap suc (firsts_length (o + s) ss p n (le_of_suc-le-suc h))

-- one more stands behind them
pub firsts_more : (o : ℕ) (ss : List ℕ) (p : Bits) (n : ℕ) → n < length ss
    → firsts o ss p (suc n) ≡ firsts o ss p n ++ (take (o + offset ss n) p ∷ [])
firsts_more o [] p n h = absurd (not-suc-le-zero h)
firsts_more o (s ∷ ss) p zero h = let none : o ≡ o + 0 = omega arith in ap (λ (i : ℕ). take i p ∷ []) none
firsts_more o (s ∷ ss) p (suc n) h =
    ap (λ (l : List Bits). take o p ∷ l)
    (firsts_more (o + s) ss p n (le_of_suc-le-suc h)
    ∙ ap (λ (i : ℕ). firsts (o + s) ss p n ++ (take i p ∷ [])) (add_assoc o s (offset ss n)))

-- fewer are among more
pub firsts_among : (o : ℕ) (ss : List ℕ) (p q : Bits) (m n : ℕ) → m ≤ n → member q (firsts o ss p m) ≡ true → member q (firsts o ss p n) ≡ true
firsts_among o ss p q zero n h e = cc
firsts_among o ss p q (suc m) zero h e = absurd (omega arith)
firsts_among o [] p q (suc m) (suc n) h e = e
firsts_among o (s ∷ ss) p q (suc m) (suc n) h e = elim (decided (same q (take o p))) [
  | holds t ↦ simp t
  | fails t ↦ simp t (firsts_among (o + s) ss p q m n (le_of_suc-le-suc h) (simp t at e))
]

-- of the first bits of a prefix they are those of the prefix
pub firsts_front : (o : ℕ) (ss : List ℕ) (p : Bits) (n m : ℕ) → n < length ss → o + offset ss n ≤ m
    → firsts o ss (take m p) (suc n) ≡ firsts o ss p (suc n)
firsts_front o [] p n m h l = absurd (not-suc-le-zero h)
firsts_front o (s ∷ ss) p zero m h l = ap (λ (x : Bits). x ∷ []) (take-take o m p (omega arith))
firsts_front o (s ∷ ss) p (suc n) m h l =
    ap₂ (λ (x : Bits) (xs : List Bits). x ∷ xs) (take-take o m p (omega arith)) (firsts_front (o + s) ss p n m (le_of_suc-le-suc h) (omega arith))

-- the way of a prefix is made of those up to the stride where it lies
pub way_firsts : (o : ℕ) (ss : List ℕ) (p : Bits) (k : ℕ) → k < length ss → o + offset ss k ≤ length p → length p < o + offset ss (suc k)
    → way (offsets_from o ss) p ≡ firsts o ss p (suc k)
way_firsts o [] p k h l m = absurd (not-suc-le-zero h)
way_firsts o (s ∷ ss) p zero h l m =
    let none = way_none ss (o + s) p (omega arith) in
    simp (le-leb o (length p) (omega arith)) (ap (λ (xs : List Bits). take o p ∷ xs) none)
way_firsts o (s ∷ ss) p (suc k) h l m =
    simp (le-leb o (length p) (omega arith))
    (ap (λ (xs : List Bits). take o p ∷ xs) (way_firsts (o + s) ss p k (le_of_suc-le-suc h) (omega arith) (omega arith)))

-- ---- the nodes on a way

-- each path either has a node or is fresh
pub fresh_serving : (used : List Place) (old ps : List Bits) → length (fresh ps old) + length (serving used old ps) ≡ length ps
fresh_serving used old [] = refl
fresh_serving used old (p ∷ ps) =
    let rest = fresh_serving used old ps in
    elim (decided (member p old)) [ holds e ↦ simp e (omega arith) | fails e ↦ simp e (omega arith) ]

-- where the first of them alone are required, the nodes are those of the first
pub serving_firsts : (used : List Place) (old : List Bits) (o : ℕ) (ss : List ℕ) (p : Bits) (m n : ℕ) → m ≤ n → n ≤ length ss
    → ((i : ℕ) → i < m → member (take (o + offset ss i) p) old ≡ true)
    → ((i : ℕ) → m ≤ i → i < n → member (take (o + offset ss i) p) old ≡ false)
    → serving used old (firsts o ss p n) ≡ map (node_at used) (firsts o ss p m)
serving_firsts used old o ss p zero zero h l these others = refl
serving_firsts used old o ss p (suc m) zero h l these others = absurd (omega arith)
serving_firsts used old o [] p m (suc n) h l these others = absurd (not-suc-le-zero l)
serving_firsts used old o (s ∷ ss) p zero (suc n) h l these others =
    let none : o + 0 ≡ o = omega arith in
    let here : member (take o p) old ≡ false = ap (λ (k : ℕ). member (take k p) old) (sym none) ∙ others 0 (omega arith) (omega arith) in
    simp here
    (serving_firsts used old (o + s) ss p zero n (omega arith) (le_of_suc-le-suc l) (λ i k. absurd (omega arith))
    (λ i k j. ap (λ (a : ℕ). member (take a p) old) (add_assoc o s (offset ss i)) ∙ others (suc i) (omega arith) (omega arith)))
serving_firsts used old o (s ∷ ss) p (suc m) (suc n) h l these others =
    let none : o + 0 ≡ o = omega arith in
    let here : member (take o p) old ≡ true = ap (λ (k : ℕ). member (take k p) old) (sym none) ∙ these 0 (omega arith) in
    simp here
    (ap (λ (ns : List ℕ). node_at used (take o p) ∷ ns)
    (serving_firsts used old (o + s) ss p m n (le_of_suc-le-suc h) (le_of_suc-le-suc l)
    (λ i k. ap (λ (a : ℕ). member (take a p) old) (add_assoc o s (offset ss i)) ∙ these (suc i) (omega arith))
    (λ i k j. ap (λ (a : ℕ). member (take a p) old) (add_assoc o s (offset ss i)) ∙ others (suc i) (omega arith) (omega arith))))

-- the node of each of the first paths
pub node_among : (used : List Place) (o : ℕ) (ss : List ℕ) (p : Bits) (n i : ℕ) → n ≤ length ss → i < n
    → get_or (map (node_at used) (firsts o ss p n)) i 0 ≡ node_at used (take (o + offset ss i) p)
node_among used o ss p zero i h l = absurd (omega arith)
node_among used o [] p (suc n) i h l = absurd (not-suc-le-zero h)
node_among used o (s ∷ ss) p (suc n) zero h l = let none : o ≡ o + 0 = omega arith in ap (λ (k : ℕ). node_at used (take k p)) none
node_among used o (s ∷ ss) p (suc n) (suc i) h l =
    node_among used (o + s) ss p n i (le_of_suc-le-suc h) (le_of_suc-le-suc l) ∙ ap (λ (k : ℕ). node_at used (take k p)) (add_assoc o s (offset ss i))

-- ---- required paths

-- the paths on the way of a required path are required
pub way_closed : (plan : List ℕ) (routes : Routes) (y q : Bits) → member y (required_paths plan routes) ≡ true
    → member q (way (offsets plan) y) ≡ true → member q (required_paths plan routes) ≡ true
way_closed plan routes y q m on_way =
    ⊎_elim
    (λ (e : y ≡ []).
    let front = way_front (offsets plan) y q on_way in
    let size : length y ≡ 0 = ap length e in
    let none : length q ≡ 0 = omega (arith, front.1) in
    let is : [] ≡ q = ap (λ (n : ℕ). take n y) (sym none) ∙ front.0 in
    ap (λ (z : Bits). member z (required_paths plan routes)) (sym is) ∙ root_required plan routes)
    (λ (x : Beneath plan routes y).
    let step = way_step 0 plan y q on_way in
    let size : length y ≡ offset plan x.stride = ap length x.is ∙ length-take-le (offset plan x.stride) x.prefix x.reaches in
    let reaches = step.reaches in
    let within = x.reaches in
    let is : q ≡ take (offset plan step.stride) x.prefix =
    step.is ∙ ap (λ (n : ℕ). take n y) (zero-add (offset plan step.stride)) ∙ ap (take (offset plan step.stride)) x.is
    ∙ take-take (offset plan step.stride) (offset plan x.stride) x.prefix (omega arith) in
    ap (λ (z : Bits). member z (required_paths plan routes)) is
    ∙ offset_required plan routes x.prefix step.stride x.held step.planned (omega arith))
    (which plan routes y m)

-- a route requires its way besides
pub put_required : (plan : List ℕ) (routes : Routes) (p q : Bits)
    → member q (required_paths plan (put routes p 0)) ≡ (member q (way (offsets plan) p) || member q (required_paths plan routes))
put_required plan routes p q =
    let os = offsets plan in
    required_cases plan (put routes p 0) q
    ∙ ap (λ t. same q [] || t) (put_members os routes p 0 q ∙ member_append q (way os p) (ways os routes))
    ∙ or_swap (same q []) (member q (way os p)) (member q (ways os routes))
    ∙ ap (λ t. member q (way os p) || t) (sym (required_cases plan routes q))

-- and no more where its way is a part of another
pub put_fewer : (plan : List ℕ) (routes : Routes) (p q : Bits)
    → ((x : Bits) → member x (way (offsets plan) q) ≡ true → member x (way (offsets plan) p) ≡ true)
    → required plan (put routes q 0) ≤ required plan (put routes p 0)
unfolding required
put_fewer plan routes p q among =
    let size : (r : Bits) → length (required_paths plan (put routes r 0)) ≡ length (distinct (required_paths plan (put routes r 0))) =
    λ r. sym (ap length (single_distinct (required_paths plan (put routes r 0)) (required_single plan (put routes r 0)))) in
    let one = size q in
    let two = size p in
    let few = fewer_paths (required_paths plan (put routes q 0)) (required_paths plan (put routes p 0)) (λ x m.
    put_required plan routes p x
    ∙ ⊎_elim
    (λ e. or_left (member x (way (offsets plan) p)) (member x (required_paths plan routes)) (among x e))
    (λ e. or_right (member x (way (offsets plan) p)) (member x (required_paths plan routes)) e)
    (or_cases (member x (way (offsets plan) q)) (member x (required_paths plan routes)) (sym (put_required plan routes q x) ∙ m))) in
    omega arith

-- ---- the paths on the way of a prefix

-- what is above a number is the next or above that
next_or : (n i : ℕ) → n < i → (i ≡ suc n) ⊎ (suc n < i)
next_or n i l = ⊎_elim (λ (e : i ≡ suc n). inl e) (λ e. inr (omega arith)) (cases_eq i (suc n))

module _ (W : ℕ) (plan : List ℕ) (ok : plan_ok W plan ≡ true) (p : Bits) (short : length p ≤ W) where
  -- the stride where the prefix lies, which is as many as it has child indexes
  abbrev pub last : ℕ
  last = level plan (length p)

  there : Lies plan last (length p)
  there = let t = (planned W plan ok).total in somewhere plan (length p) (omega arith)

  pub last_planned : last < length plan
  last_planned = there.0

  pub last_index : length (indexes plan p) ≡ last
  last_index = place_laws.one_index_each W plan p ok short

  -- the prefix reaches the offset of each path, so that this is the path's length
  pub path_reached : (k : ℕ) → k ≤ last → offset plan k ≤ length p
  path_reached k h = let more = offset_grows plan k last h in let l = there.1 in omega arith

  pub path_size : (k : ℕ) → k ≤ last → length (path_of plan p k) ≡ offset plan k
  path_size k h = length-take-le (offset plan k) p (path_reached k h)

  pub path_longer : (k : ℕ) → k < last → offset plan k < offset plan (suc k)
  path_longer k h = let in_plan = there.0 in offset_less plan k (planned W plan ok).range (omega arith)

  -- the first bits of a path are a path before it
  pub path_front : (j k : ℕ) → j ≤ k → take (offset plan j) (path_of plan p k) ≡ path_of plan p j
  path_front j k h = take-take (offset plan j) (offset plan k) p (offset_grows plan j k h)

  -- the ways of the paths and of the prefix are made of the first of them
  pub way_path : (k : ℕ) → k ≤ last → way (offsets plan) (path_of plan p k) ≡ firsts 0 plan p (suc k)
  way_path k h =
      let in_plan = there.0 in
      let size = path_size k h in
      let more = offset_less plan k (planned W plan ok).range (omega arith) in
      way_firsts 0 plan (path_of plan p k) k (omega arith) (omega arith) (omega arith)
      ∙ firsts_front 0 plan p k (offset plan k) (omega arith) (omega arith)

  pub way_all : way (offsets plan) p ≡ firsts 0 plan p (suc last)
  way_all =
      let l = there.1 in
      let m = there.2 in
      let next = offset_next plan last there.0 in
      way_firsts 0 plan p last there.0 (omega arith) (omega arith)

  pub way_more : (k : ℕ) → k < last
      → way (offsets plan) (path_of plan p (suc k)) ≡ way (offsets plan) (path_of plan p k) ++ (path_of plan p (suc k) ∷ [])
  way_more k h =
      let in_plan = there.0 in
      way_path (suc k) (omega arith)
      ∙ firsts_more 0 plan p (suc k) (omega arith)
      ∙ ap₂ (λ (xs : List Bits) (x : Bits). xs ++ (x ∷ [])) (sym (way_path k (omega arith)))
      (ap (λ (i : ℕ). take i p) (zero-add (offset plan (suc k))))

  -- each is on the way of those behind it
  pub path_on_way : (j k : ℕ) → j ≤ k → k ≤ last → member (path_of plan p j) (way (offsets plan) (path_of plan p k)) ≡ true
  path_on_way j k h l =
      let in_plan = there.0 in
      let size = path_size k l in
      let more = offset_grows plan j k h in
      subst (λ (x : Bits). member x (way (offsets plan) (path_of plan p k)) ≡ true)
      (ap (λ (n : ℕ). take n (path_of plan p k)) (zero-add (offset plan j)) ∙ path_front j k h)
      (step_way 0 plan (path_of plan p k) j (omega arith) (omega arith))

  module _ (routes : Routes) where
    -- the paths before a required one are required
    pub served_before : (j k : ℕ) → j ≤ k → k ≤ last → served plan routes p k ≡ true → served plan routes p j ≡ true
    served_before j k h l e = way_closed plan routes (path_of plan p k) (path_of plan p j) e (path_on_way j k h l)

    -- those behind the last required one are not
    pub unserved_behind : (j i : ℕ) → ServedTo plan routes p j → j < i → i ≤ last → served plan routes p i ≡ false
    unserved_behind j i to h l = elim (decided (served plan routes p i)) [
      | holds e ↦
          (let size = last_index in
          let wrong = sym (to.no_more (omega arith)) ∙ served_before (suc j) i h l e in
          let z : ◌≡◌ {A = ℕ} 0 1 = cc in
          absurd (omega arith))
      | fails e ↦ e
    ]

    -- there is a last required one
    pub served_to : (j : ℕ) × ServedTo plan routes p j
    served_to = down last (omega arith) (λ i l m. absurd (omega arith))
      where
        down : (n : ℕ) → n ≤ last → ((i : ℕ) → n < i → i ≤ last → served plan routes p i ≡ false) → (j : ℕ) × ServedTo plan routes p j
        down zero h none = (
          0,
          record {
            within = omega arith;
            there = root_required plan routes;
            no_more = λ l. let size = last_index in none 1 (omega arith) (omega arith);
          },
        )
        down (suc n) h none = elim (decided (served plan routes p (suc n))) [
          | holds e ↦ (
            suc n,
            record {
              within = (let size = last_index in omega arith);
              there = e;
              no_more = λ l. let size = last_index in none (suc (suc n)) (omega arith) (omega arith);
            },
          )
          | fails e ↦ down n (omega arith) (λ i l m. ⊎_elim
              (λ (k : i ≡ suc n). ap (served plan routes p) k ∙ e)
              (λ (k : suc n < i). none i k m)
              (next_or n i l))
        ]

  -- ---- from a path to the next

  -- the child index at a stride is the number of its bits, with which the path goes on
  pub index_is : (k : ℕ) → k < last → get_or (indexes plan p) k 0 ≡ number (take (get_or plan k 0) (drop (offset plan k) p))
  index_is k h = let size = last_index in place_laws.index_at plan p k (omega arith)

  bits_size : (k : ℕ) → k < last → length (take (get_or plan k 0) (drop (offset plan k) p)) ≡ get_or plan k 0
  bits_size k h =
      let in_plan = there.0 in
      let next = offset_next plan k (omega arith) in
      let reached = path_reached (suc k) h in
      let left = length-drop (offset plan k) p in
      length-take-le (get_or plan k 0) (drop (offset plan k) p) (omega arith)

  pub index_small : (k : ℕ) → k < last → get_or (indexes plan p) k 0 < 2 ^ get_or plan k 0
  index_small k h =
      let small = number_lt (take (get_or plan k 0) (drop (offset plan k) p)) in
      let power = ap (λ (i : ℕ). 2 ^ i) (bits_size k h) in
      let is = index_is k h in
      omega arith

  pub path_next : (k : ℕ) → k < last → path_of plan p k ++ row (get_or plan k 0) (get_or (indexes plan p) k 0) ≡ path_of plan p (suc k)
  path_next k h =
      let in_plan = there.0 in
      let bits = take (get_or plan k 0) (drop (offset plan k) p) in
      let same_row : row (get_or plan k 0) (get_or (indexes plan p) k 0) ≡ bits =
      ap₂ (λ (i j : ℕ). row i j) (sym (bits_size k h)) (index_is k h) ∙ row_number bits in
      ap (λ (x : Bits). path_of plan p k ++ x) same_row
      ∙ sym (take-add (offset plan k) (get_or plan k 0) p)
      ∙ ap (λ (i : ℕ). take i p) (sym (offset_next plan k (omega arith)))

-- the path of a prefix is on its way
pub on_way : (W : ℕ) (plan : List ℕ) → plan_ok W plan ≡ true → (p : Bits) → length p ≤ W → member (path_to plan p) (way (offsets plan) p) ≡ true
on_way W plan ok p short =
    let last = level plan (length p) in
    let same_way : way (offsets plan) (path_of plan p last) ≡ way (offsets plan) p = way_path W plan ok p short last (omega arith) ∙ sym (way_all W plan ok p short) in
    subst (λ (ps : List Bits). member (path_to plan p) ps ≡ true) same_way (path_on_way W plan ok p short last last (omega arith) (omega arith))
