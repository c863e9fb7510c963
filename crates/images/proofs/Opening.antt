-- The image of a newly opened table: every field is 0, but for the links of the chain.
use Rattle.std.proofs.Common.{◌≡◌, ℕ, zero, suc, ◌+◌, ◌-◌, ◌^◌, ◌≤◌, Bool, true, false, cond, ◌&&◌, eqb, ltb, List, [], ◌∷◌, refl, sym, ap, ◌∙◌, lt-ltb, le-ltb, arith}
use Rattle.std.proofs.lemmas.Bool.{eqb-true, eqb-false, ne_eqb}
use Rattle.bits.specs.Rows.{number, row}
use Rattle.bits.specs.Order.{same}
use Rattle.bits.proofs.Orders.{holds, fails, decided}
use Rattle.model.specs.Placements.{Place, bitmap_of, child_of, count_of, field, hop_in, from, front, image, link_in, opened_placement, path_at, stride_from}
use Rattle.images.specs.Steps.{chained}

pub count_none : (f : ℕ → ℕ) (k : ℕ) → ((i : ℕ) → f i ≡ 0) → count_of f k ≡ 0
count_none f zero none = refl
count_none f (suc k) none = simp (none k) (count_none f k none)

-- so many numbers, each linked to the next
links : (a c n : ℕ) → a ≤ n → link_in (from a c) n ≡ cond (ltb (suc n) (a + c)) (suc n) 0
links a zero n h = simp (le-ltb (suc n) (a + 0) (omega arith))
links a (suc c) n h = elim (decided (eqb n a)) [
  | holds e ↦ (let is = eqb-true n a e in simp e (by c is))
  | fails e ↦
      (let apart = eqb-false n a e in
      let whole : suc a + c ≡ a + suc c = omega arith in
      simp e (links (suc a) c n (omega arith) ∙ ap (λ (k : ℕ). cond (ltb (suc n) k) (suc n) 0) whole))
]
  where
    by : (c : ℕ) → n ≡ a → front (from (suc a) c) ≡ cond (ltb (suc n) (a + suc c)) (suc n) 0
    by zero is = simp (le-ltb (suc n) (a + 1) (omega arith))
    by (suc c) is = simp (lt-ltb (suc n) (a + suc (suc c)) (omega arith)) (ap suc (sym is))

module _ (N : ℕ) (plan : List ℕ) (some : 1 ≤ N) where
  abbrev root : List Place
  root = record { path = []; node = 0 } ∷ []

  no_child : (s i : ℕ) → child_of root [] s i ≡ 0
  no_child s i = by (ltb i (2 ^ s)) (same (row s i) [])
    where
      by : (t u : Bool) → ◌≡◌ {A = ℕ} (cond t (cond u 0 0) 0) 0
      by true true = refl
      by true false = refl
      by false u = refl

  no_mark : (s : ℕ) → bitmap_of [] s [] ≡ 0
  unfolding number
  no_mark s = refl

  no_bitmap : (n : ℕ) → field plan (path_at root n) (λ x s. bitmap_of x s []) 0 ≡ 0
  no_bitmap n = elim (decided (eqb n 0)) [ holds e ↦ simp e (no_mark (stride_from 0 plan 0)) | fails e ↦ simp e ]

  no_count : (n : ℕ) → field plan (path_at root n) (λ x s. count_of (child_of root x s) 64) 0 ≡ 0
  no_count n = elim (decided (eqb n 0)) [
    | holds e ↦ simp e (count_none (child_of root [] (stride_from 0 plan 0)) 64 (no_child (stride_from 0 plan 0)))
    | fails e ↦ simp e
  ]

  no_hop : (n j : ℕ) → field plan (path_at root n) (λ x s. hop_in x s [] j) 0 ≡ 0
  no_hop n j = elim (decided (eqb n 0)) [ holds e ↦ simp e | fails e ↦ simp e ]

  link : (n j : ℕ)
      → field plan (path_at root n) (λ x s. child_of root x s j) (cond (eqb j 0) (link_in (from 1 (N - 1)) n) 0)
      ≡ cond (eqb j 0 && (ltb 0 n && ltb (suc n) N)) (suc n) 0
  link zero j = no_child (stride_from 0 plan 0) j ∙ sym (by (eqb j 0))
    where
      by : (t : Bool) → ◌≡◌ {A = ℕ} (cond (t && (ltb 0 0 && ltb 1 N)) 1 0) 0
      by true = refl
      by false = refl
  link (suc n) j =
      let other : eqb (suc n) 0 ≡ false = ne_eqb (suc n) 0 (λ e. omega arith) in
      let above : ltb 0 (suc n) ≡ true = lt-ltb 0 (suc n) (omega arith) in
      let whole : 1 + (N - 1) ≡ N = omega arith in
      simp (other, above) (elim (decided (eqb j 0)) [
        | holds e ↦ simp e (links 1 (N - 1) (suc n) (omega arith) ∙ ap (λ (k : ℕ). cond (ltb (suc (suc n)) k) (suc (suc n)) 0) whole)
        | fails e ↦ simp e
      ])

  pub opened_image : image N plan [] (opened_placement N) ≡ chained N
  unfolding image opened_placement
  opened_image = λ i. record {
    size = N;
    bitmap = λ n. no_bitmap n i;
    count = λ n. no_count n i;
    child = λ n j. link n j i;
    hop = λ n j. no_hop n j i;
  }

  -- the front of its chain
  pub opened_front : front (opened_placement N).free ≡ cond (ltb 1 N) 1 0
  unfolding opened_placement
  opened_front = by (N - 1) refl
    where
      by : (c : ℕ) → N - 1 ≡ c → front (from 1 c) ≡ cond (ltb 1 N) 1 0
      by zero e = simp (le-ltb 1 N (omega arith))
      by (suc c) e = simp (lt-ltb 1 N (omega arith))
