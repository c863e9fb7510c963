-- How often a number stands in a list: each number below N once, and no other, in lists of length N.
use Rattle.std.proofs.Common.{◌≡◌, ℕ, zero, suc, ◌+◌, ◌≤◌, false, cond, eqb, ltb, leb, List, [], ◌∷◌, ◌++◌, length, sym, refl, ap, ◌∙◌, subst, arith}
use Rattle.std.proofs.lemmas.Bool.{eq-eqb, eqb-true, eqb-false, le-leb, le-ltb, leb-true, leb-false, lt-leb, lt-ltb, ltb-false, ltb-true}
use Rattle.bits.proofs.Orders.{holds, fails, decided}
use Rattle.model.specs.Placements.{Once, from, listed}

-- how often
abbrev pub count : ℕ → List ℕ → ℕ
count n [] = 0
count n (x ∷ xs) = cond (eqb n x) (suc (count n xs)) (count n xs)

pub count_append : (n : ℕ) (xs ys : List ℕ) → count n (xs ++ ys) ≡ count n xs + count n ys
count_append n [] ys = omega arith
count_append n (x ∷ xs) ys =
    let rest = count_append n xs ys in
    elim (decided (eqb n x)) [ holds e ↦ simp e (omega arith) | fails e ↦ simp e rest ]

pub listed_count : (n : ℕ) (xs : List ℕ) → listed n xs ≡ leb 1 (count n xs)
listed_count n [] = sym (lt-leb 1 0 (omega arith))
listed_count n (x ∷ xs) = elim (decided (eqb n x)) [
  | holds e ↦ simp e (sym (le-leb 1 (suc (count n xs)) (omega arith)))
  | fails e ↦ simp e (listed_count n xs)
]

none_counted : (n : ℕ) (xs : List ℕ) → listed n xs ≡ false → count n xs ≡ 0
none_counted n [] h = refl
none_counted n (x ∷ xs) h = elim (decided (eqb n x)) [
  | holds e ↦ (let wrong = simp e at h in cc)
  | fails e ↦ simp e (none_counted n xs (simp e at h))
]

once_counted : (n : ℕ) (xs : List ℕ) → Once xs → count n xs ≤ 1
once_counted n [] o = omega arith
once_counted n (x ∷ xs) o = elim (decided (eqb n x)) [
  | holds e ↦
      (let none = none_counted n xs (subst (λ m. listed m xs ≡ false) (sym (eqb-true n x e)) o.0) in
      simp e (omega arith))
  | fails e ↦ simp e (once_counted n xs o.1)
]

counted_once : (xs : List ℕ) → ((n : ℕ) → count n xs ≤ 1) → Once xs
counted_once [] h = tt
counted_once (x ∷ xs) h =
    let here : suc (count x xs) ≤ 1 = simp (eq-eqb x x refl) at (h x) in (
      listed_count x xs ∙ lt-leb 1 (count x xs) (omega arith),
      counted_once xs (λ n. elim (decided (eqb n x)) [
        | holds e ↦ (let more : suc (count n xs) ≤ 1 = simp e at (h n) in omega arith)
        | fails e ↦ simp e at (h n)
      ]),
    )

-- ---- the numbers below N, each once

abbrev pub Numbers : ℕ → List ℕ → Type 0
Numbers N xs = (n : ℕ) → count n xs ≡ cond (ltb n N) 1 0

pub numbers : (N : ℕ) (xs : List ℕ) → ((n : ℕ) → listed n xs ≡ ltb n N) → Once xs → Numbers N xs
numbers N xs each o n =
    let most = once_counted n xs o in
    let some = sym (listed_count n xs) ∙ each n in
    elim (decided (ltb n N)) [
      | holds e ↦ simp e (let low = leb-true 1 (count n xs) (some ∙ e) in omega arith)
      | fails e ↦ simp e (none_counted n xs (each n ∙ e))
    ]

pub numbers_listed : (N : ℕ) (xs : List ℕ) → Numbers N xs → (n : ℕ) → listed n xs ≡ ltb n N
numbers_listed N xs h n = listed_count n xs ∙ elim (decided (ltb n N)) [
  | holds e ↦ (let one : count n xs ≡ 1 = simp e at (h n) in simp e (le-leb 1 (count n xs) (omega arith)))
  | fails e ↦ (let none : count n xs ≡ 0 = simp e at (h n) in simp e (lt-leb 1 (count n xs) (omega arith)))
]

pub numbers_once : (N : ℕ) (xs : List ℕ) → Numbers N xs → Once xs
numbers_once N xs h = counted_once xs (λ n. elim (decided (ltb n N)) [
  | holds e ↦ (let one : count n xs ≡ 1 = simp e at (h n) in omega arith)
  | fails e ↦ (let none : count n xs ≡ 0 = simp e at (h n) in omega arith)
])

-- without every occurrence of a number
strike : ℕ → List ℕ → List ℕ
strike n [] = []
strike n (x ∷ xs) = cond (eqb n x) (strike n xs) (x ∷ strike n xs)

strike_length : (n : ℕ) (xs : List ℕ) → length xs ≡ count n xs + length (strike n xs)
unfolding strike
strike_length n [] = refl
strike_length n (x ∷ xs) =
    let rest = strike_length n xs in
    elim (decided (eqb n x)) [ holds e ↦ simp e (omega arith) | fails e ↦ simp e (omega arith) ]

strike_gone : (n : ℕ) (xs : List ℕ) → count n (strike n xs) ≡ 0
unfolding strike
strike_gone n [] = refl
strike_gone n (x ∷ xs) = elim (decided (eqb n x)) [ holds e ↦ simp e (strike_gone n xs) | fails e ↦ simp e (strike_gone n xs) ]

strike_keeps : (m n : ℕ) (xs : List ℕ) → eqb m n ≡ false → count m (strike n xs) ≡ count m xs
unfolding strike
strike_keeps m n [] h = refl
strike_keeps m n (x ∷ xs) h = elim (decided (eqb n x)) [
  | holds e ↦
      (let other : eqb m x ≡ false = subst (λ y. eqb m y ≡ false) (eqb-true n x e) h in
      simp (e, other) (strike_keeps m n xs h))
  | fails e ↦ elim (decided (eqb m x)) [
    | holds k ↦ simp (e, k) (ap suc (strike_keeps m n xs h))
    | fails k ↦ simp (e, k) (strike_keeps m n xs h)
  ]
]

pub numbers_length : (N : ℕ) (xs : List ℕ) → Numbers N xs → length xs ≡ N
numbers_length zero [] h = refl
numbers_length zero (x ∷ xs) h =
    let here = simp (eq-eqb x x refl, le-ltb x 0 (omega arith)) at (h x) in
    absurd (omega arith)
numbers_length (suc N) xs h =
    let here : count N xs ≡ 1 = simp (lt-ltb N (suc N) (omega arith)) at (h N) in
    let rest = numbers_length N (strike N xs) (λ n. elim (decided (eqb n N)) [
      | holds e ↦
          (let is = eqb-true n N e in
          simp (le-ltb n N (omega arith)) (subst (λ m. count m (strike N xs) ≡ 0) (sym is) (strike_gone N xs)))
      | fails e ↦
          (let differ = eqb-false n N e in
          strike_keeps n N xs e ∙ h n ∙ elim (decided (ltb n N)) [
            | holds k ↦ (let small = ltb-true n N k in simp (k, lt-ltb n (suc N) (omega arith)))
            | fails k ↦
                (let large = ltb-false n N k in
                simp (k, le-ltb n (suc N) (lt_from n differ large)))
          ])
    ]) in
    let size = strike_length N xs in
    omega arith
  where
    lt_from : (n : ℕ) → (n ≡ N → ⊥) → N ≤ n → suc N ≤ n
    lt_from n d l = omega arith

-- the numbers from a first one on
pub from_numbers : (first many : ℕ) → (n : ℕ) → count n (from first many) ≡ cond (leb first n) (cond (ltb n (first + many)) 1 0) 0
from_numbers first zero n = elim (decided (leb first n)) [
  | holds e ↦ (let low = leb-true first n e in simp (e, le-ltb n (first + 0) (omega arith)))
  | fails e ↦ simp e
]
from_numbers first (suc many) n =
    let rest = from_numbers (suc first) many n in
    let end : suc first + many ≡ first + suc many = omega arith in
    elim (decided (eqb n first)) [
      | holds e ↦
          (let is = eqb-true n first e in
          simp (e, le-leb first n (omega arith), lt-ltb n (first + suc many) (omega arith))
          (ap suc (rest ∙ simp (lt-leb (suc first) n (omega arith)))))
      | fails e ↦
          (let differ = eqb-false n first e in
          elim (decided (leb first n)) [
            | holds k ↦ (let low = leb-true first n k in simp (e, k) (rest ∙ simp (le-leb (suc first) n (omega arith), end)))
            | fails k ↦ (let high = leb-false first n k in simp (e, k) (rest ∙ simp (lt-leb (suc first) n (omega arith))))
          ])
    ]
