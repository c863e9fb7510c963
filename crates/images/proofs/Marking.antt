-- What a route put in or taken out changes of the marks and hops of the node where it lies, and that it changes no other.
use Rattle.std.proofs.Common.{◌≡◌, ℕ, zero, suc, ◌+◌, ◌*◌, ◌^◌, ◌<◌, Bool, true, false, cond, not, ◌&&◌, ◌||◌, eqb, ltb, [], ◌∷◌, ◌++◌, length, drop, Equal, Greater, refl, sym, ap, ◌∙◌, ap₂, take-append-drop, arith}
use Rattle.bits.specs.Rows.{Bits, number}
use Rattle.bits.specs.Order.{begins, order, same}
use Rattle.bits.proofs.Orders.{less, equal, greater, compared, holds, fails, decided, order_equal, order_self, same_eq, same_self}
use Rattle.bits.proofs.Prefixes.{front_from_begins}
use Rattle.laws.proofs.Positions.{length_marks, marked_at, position_same}
use Rattle.std.proofs.lemmas.Bool.{and_parts, eq-eqb, eqb-true, eqb-false, ne_eqb}
use Rattle.model.specs.Places.{position}
use Rattle.model.specs.Placements.{bitmap_of, hop_in, lies_at, lies_in, marks, taken_at}
use Rattle.model.specs.Routes.{Routes, put, without}
use Rattle.masks.specs.Marks.{with_mark, without_mark}

-- ---- one prefix at a position

-- two prefixes at one position of a node are one
lie_together : (path : Bits) (s i : ℕ) (p q : Bits) → lies_at path s i p ≡ true → lies_at path s i q ≡ true → p ≡ q
lie_together path s i p q h k =
    let a = and_parts (lies_in path s p) (eqb i (position (drop (length path) p))) h in
    let b = and_parts (lies_in path s q) (eqb i (position (drop (length path) q))) k in
    let rest : drop (length path) p ≡ drop (length path) q =
    position_same (drop (length path) p) (drop (length path) q)
    (sym (eqb-true i (position (drop (length path) p)) a.1) ∙ eqb-true i (position (drop (length path) q)) b.1) in
    let front_p = front_from_begins path p (and_parts (begins path p) (ltb (length p) (length path + s)) a.0).0 in
    let front_q = front_from_begins path q (and_parts (begins path q) (ltb (length q) (length path + s)) b.0).0 in
    sym (take-append-drop (length path) p) ∙ ap₂ (λ (x y : Bits). x ++ y) (front_p ∙ sym front_q) rest ∙ take-append-drop (length path) q

module _ (path : Bits) (s : ℕ) (p : Bits) where
  or_swap : (a b c : Bool) → (a || (b || c)) ≡ (b || (a || c))
  or_swap true true c = refl
  or_swap true false c = refl
  or_swap false true c = refl
  or_swap false false c = refl

  or_same : (a c : Bool) → (a || c) ≡ (a || (a || c))
  or_same true c = refl
  or_same false c = refl

  taken_put : (h i : ℕ) (rs : Routes) → taken_at path s (put rs p h) i ≡ (lies_at path s i p || taken_at path s rs i)
  taken_put h i [] = refl
  taken_put h i (r ∷ rs) = elim (compared p r.prefix) [
    | less e ↦ simp e
    | equal e ↦ simp (e, ← order_equal p r.prefix e) (or_same (lies_at path s i p) (taken_at path s rs i))
    | greater e ↦
        simp e
        (ap (λ t. lies_at path s i r.prefix || t) (taken_put h i rs)
        ∙ or_swap (lies_at path s i r.prefix) (lies_at path s i p) (taken_at path s rs i))
  ]

  hop_put : (h i : ℕ) (rs : Routes) → hop_in path s (put rs p h) i ≡ cond (lies_at path s i p) h (hop_in path s rs i)
  hop_put h i [] = refl
  hop_put h i (r ∷ rs) = elim (compared p r.prefix) [
    | less e ↦ simp e
    | equal e ↦ simp (e, ← order_equal p r.prefix e) (by (lies_at path s i p) (hop_in path s rs i))
    | greater e ↦ simp e (ap (cond (lies_at path s i r.prefix) r.hop) (hop_put h i rs) ∙ apart e)
  ]
    where
      by : (t : Bool) (x : ℕ) → cond t h x ≡ cond t h (cond t r.hop x)
      by true x = refl
      by false x = refl

      apart : order p r.prefix ≡ Greater
          → cond (lies_at path s i r.prefix) r.hop (cond (lies_at path s i p) h (hop_in path s rs i))
          ≡ cond (lies_at path s i p) h (cond (lies_at path s i r.prefix) r.hop (hop_in path s rs i))
      apart e = elim (decided (lies_at path s i p)) [
        | holds a ↦ elim (decided (lies_at path s i r.prefix)) [
          | holds b ↦ (let wrong : Greater ≡ Equal = sym e ∙ ap (order p) (sym (lie_together path s i p r.prefix a b)) ∙ order_self p in cc)
          | fails b ↦ simp (a, b)
        ]
        | fails a ↦ simp a
      ]

  and_both : (a b c : Bool) → ((a || b) && c) ≡ ((a && c) || (b && c))
  and_both true true true = refl
  and_both true true false = refl
  and_both true false true = refl
  and_both true false false = refl
  and_both false b c = refl

  taken_without : (i : ℕ) (rs : Routes) → taken_at path s (without rs p) i ≡ (taken_at path s rs i && not (lies_at path s i p))
  taken_without i [] = refl
  taken_without i (r ∷ rs) = elim (decided (same p r.prefix)) [
    | holds e ↦ simp (e, ← same_eq p r.prefix e) (taken_without i rs ∙ by (lies_at path s i p) (taken_at path s rs i))
    | fails e ↦ simp e (ap (λ t. lies_at path s i r.prefix || t) (taken_without i rs) ∙ apart e)
  ]
    where
      by : (a b : Bool) → (b && not a) ≡ ((a || b) && not a)
      by true true = refl
      by true false = refl
      by false b = refl

      both : (a b c : Bool) → (a ≡ true → c ≡ false) → (a || (b && not c)) ≡ ((a || b) && not c)
      both true b true h = let wrong = h refl in cc
      both true b false h = refl
      both false b c h = refl

      apart : same p r.prefix ≡ false
          → (lies_at path s i r.prefix || (taken_at path s rs i && not (lies_at path s i p))) ≡ ((lies_at path s i r.prefix || taken_at path s rs i) && not (lies_at path s i p))
      apart e = both (lies_at path s i r.prefix) (taken_at path s rs i) (lies_at path s i p) (λ a. elim (decided (lies_at path s i p)) [
        | holds b ↦ (let wrong = sym e ∙ ap (same p) (sym (lie_together path s i p r.prefix b a)) ∙ same_self p in cc)
        | fails b ↦ b
      ])

  hop_without : (i : ℕ) (rs : Routes) → hop_in path s (without rs p) i ≡ cond (lies_at path s i p) 0 (hop_in path s rs i)
  hop_without i [] = by (lies_at path s i p)
    where
      by : (t : Bool) → ◌≡◌ {A = ℕ} 0 (cond t 0 0)
      by true = refl
      by false = refl
  hop_without i (r ∷ rs) = elim (decided (same p r.prefix)) [
    | holds e ↦ simp (e, ← same_eq p r.prefix e) (hop_without i rs ∙ by (lies_at path s i p) (hop_in path s rs i))
    | fails e ↦ simp e (ap (cond (lies_at path s i r.prefix) r.hop) (hop_without i rs) ∙ apart e)
  ]
    where
      by : (t : Bool) (x : ℕ) → cond t 0 x ≡ cond t 0 (cond t r.hop x)
      by true x = refl
      by false x = refl

      apart : same p r.prefix ≡ false
          → cond (lies_at path s i r.prefix) r.hop (cond (lies_at path s i p) 0 (hop_in path s rs i))
          ≡ cond (lies_at path s i p) 0 (cond (lies_at path s i r.prefix) r.hop (hop_in path s rs i))
      apart e = elim (decided (lies_at path s i p)) [
        | holds a ↦ elim (decided (lies_at path s i r.prefix)) [
          | holds b ↦ (let wrong = sym e ∙ ap (same p) (sym (lie_together path s i p r.prefix a b)) ∙ same_self p in cc)
          | fails b ↦ simp (a, b)
        ]
        | fails a ↦ simp a
      ]

-- ---- the number of a row of marks

module _ (f g : ℕ → Bool) (j : ℕ) where
  same_marks : (n : ℕ) → ((i : ℕ) → i < n → g i ≡ f i) → marks g n ≡ marks f n
  same_marks zero h = refl
  same_marks (suc n) h = ap₂ (λ (b : Bool) (bs : Bits). b ∷ bs) (h n (omega arith)) (same_marks n (λ i l. h i (omega arith)))

  one_more : (n : ℕ) → j < n → f j ≡ false → ((i : ℕ) → i < n → g i ≡ (eqb i j || f i)) → number (marks g n) ≡ number (marks f n) + 2 ^ j
  unfolding number
  one_more zero l off h = absurd (omega arith)
  one_more (suc n) l off h =
      let here = h n (omega arith) in
      let lf = length_marks f n in
      let lg = length_marks g n in
      elim (decided (eqb n j)) [
        | holds e ↦
            (let at = eqb-true n j e in
            let on : g n ≡ true = here ∙ simp e in
            let was : f n ≡ false = ap f at ∙ off in
            let rest = same_marks n (λ i k. h i (omega arith) ∙ simp (ne_eqb i j (λ (x : i ≡ j). omega arith))) in
            simp (on, was, lf, lg) (ap (λ (bs : Bits). 1 * 2 ^ n + number bs) rest ∙ (let p = ap (λ k. 2 ^ k) at in omega arith)))
        | fails e ↦
            (let apart = eqb-false n j e in
            let as_was : g n ≡ f n = here ∙ simp e in
            let rest = one_more n (omega arith) off (λ i k. h i (omega arith)) in
            simp (as_was, lf, lg) (omega arith))
      ]

  -- one position more is marked
  pub marks_on : (n : ℕ) → j < n → ((i : ℕ) → i < n → g i ≡ (eqb i j || f i)) → number (marks g n) ≡ with_mark (number (marks f n)) j
  marks_on n l h =
      let at = marked_at f n j l in
      elim (decided (f j)) [
        | holds on ↦
            simp (at, on) (ap number (same_marks n (λ i k. h i k ∙ elim (decided (eqb i j)) [
              | holds e ↦ simp e (sym (ap f (eqb-true i j e) ∙ on))
              | fails e ↦ simp e
            ])))
        | fails off ↦ simp (at, off) (one_more n l off h)
      ]

  -- and one less
  pub marks_off : (n : ℕ) → j < n → ((i : ℕ) → i < n → f i ≡ (g i && not (eqb i j))) → number (marks f n) ≡ without_mark (number (marks g n)) j
  marks_off n l h =
      let at = marked_at g n j l in
      let none : f j ≡ false = h j l ∙ simp (eq-eqb j j refl) (and_no (g j)) in
      elim (decided (g j)) [
        | holds on ↦
            (let all = one_more n l none (λ i k. elim (decided (eqb i j)) [
              | holds e ↦ simp e (ap g (eqb-true i j e) ∙ on)
              | fails e ↦ simp e (sym (h i k ∙ simp e (and_yes (g i))))
            ]) in
            simp (at, on) (omega arith))
        | fails off ↦
            simp (at, off) (ap number (sym (same_marks n (λ i k. elim (decided (eqb i j)) [
              | holds e ↦ ap g (eqb-true i j e) ∙ off ∙ sym (ap f (eqb-true i j e) ∙ none)
              | fails e ↦ sym (h i k ∙ simp e (and_yes (g i)))
            ]))))
      ]
    where
      and_no : (t : Bool) → (t && false) ≡ false
      and_no true = refl
      and_no false = refl

      and_yes : (t : Bool) → (t && true) ≡ t
      and_yes true = refl
      and_yes false = refl

-- ---- the node where a prefix lies

module _ (path : Bits) (s : ℕ) (p : Bits) (rs : Routes) where
  abbrev place : ℕ
  place = position (drop (length path) p)

  pub bitmap_put : (h : ℕ) → lies_in path s p ≡ true → place < 64 → bitmap_of path s (put rs p h) ≡ with_mark (bitmap_of path s rs) place
  bitmap_put h inside low =
      marks_on (taken_at path s rs) (taken_at path s (put rs p h)) place 64 low (λ i k. taken_put path s p h i rs ∙ simp inside)

  pub bitmap_put_other : (h : ℕ) → lies_in path s p ≡ false → bitmap_of path s (put rs p h) ≡ bitmap_of path s rs
  bitmap_put_other h outside =
      ap number (same_marks (taken_at path s rs) (taken_at path s (put rs p h)) 0 64 (λ i k. taken_put path s p h i rs ∙ simp outside))

  pub hop_put_there : (h i : ℕ) → lies_in path s p ≡ true → hop_in path s (put rs p h) i ≡ cond (eqb i place) h (hop_in path s rs i)
  hop_put_there h i inside = hop_put path s p h i rs ∙ simp inside

  pub hop_put_other : (h i : ℕ) → lies_in path s p ≡ false → hop_in path s (put rs p h) i ≡ hop_in path s rs i
  hop_put_other h i outside = hop_put path s p h i rs ∙ simp outside

  pub bitmap_without : lies_in path s p ≡ true → place < 64 → bitmap_of path s (without rs p) ≡ without_mark (bitmap_of path s rs) place
  bitmap_without inside low =
      marks_off (taken_at path s (without rs p)) (taken_at path s rs) place 64 low (λ i k. taken_without path s p i rs ∙ simp inside)

  pub bitmap_without_other : lies_in path s p ≡ false → bitmap_of path s (without rs p) ≡ bitmap_of path s rs
  bitmap_without_other outside =
      ap number (same_marks (taken_at path s rs) (taken_at path s (without rs p)) 0 64
      (λ i k. taken_without path s p i rs ∙ simp outside (and_yes (taken_at path s rs i))))
    where
      and_yes : (t : Bool) → (t && true) ≡ t
      and_yes true = refl
      and_yes false = refl

  pub hop_without_there : (i : ℕ) → lies_in path s p ≡ true → hop_in path s (without rs p) i ≡ cond (eqb i place) 0 (hop_in path s rs i)
  hop_without_there i inside = hop_without path s p i rs ∙ simp inside

  pub hop_without_other : (i : ℕ) → lies_in path s p ≡ false → hop_in path s (without rs p) i ≡ hop_in path s rs i
  hop_without_other i outside = hop_without path s p i rs ∙ simp outside
