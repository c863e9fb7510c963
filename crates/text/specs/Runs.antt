-- The longest run of zero groups, found from the back.
use Rattle.std.specs.Prelude.{◌≡◌, ℕ, ◌+◌, ◌<◌, ◌≤◌, max, cond, List, [], ◌∷◌, length, drop, ◌≢◌, nat_le, slice_index, refl}
use Rattle.std.proofs.Common.{sym, ap, ap₂, subst, ◌∙◌, ⊎_elim, arith}
use Rattle.std.proofs.lemmas.Bool.{eq-eqb, ne_eqb, le-leb, lt-leb, cond-true, cond-false, cases_lt}
use Rattle.std.proofs.lemmas.List.{drop_more, drop_all}
use Rattle.text.specs.Colons.{zeros, longest, first_run}

-- what is known of the groups from place i on
pub record Seen (gs : List ℕ) (i run place count : ℕ) : Type 0 where
  pub run_is : run ≡ zeros (drop i gs)
  pub count_is : count ≡ longest (drop i gs)
  pub place_is : place ≡ i + first_run (longest (drop i gs)) (drop i gs)
  pub run_within : i + run ≤ length gs
  pub within : place + count ≤ length gs

pub seen_none : (gs : List ℕ) (i : ℕ) → i ≡ length gs → Seen gs i 0 i 0
unfolding zeros longest first_run
seen_none gs i e =
    let none : drop i gs ≡ [] = drop_all i gs (omega arith) in
    record {
      run_is = ap zeros (sym none);
      count_is = ap longest (sym none);
      place_is = subst (λ (r : List ℕ). i ≡ i + first_run (longest r) r) (sym none) (omega arith);
      run_within = omega arith;
      within = omega arith;
    }

pub zeros_more : (g : ℕ) (gs : List ℕ) → g ≡ 0 → zeros (g ∷ gs) ≡ zeros gs + 1
unfolding zeros
zeros_more g gs e = ap (λ t. cond t (zeros gs + 1) 0) (eq-eqb g 0 e)

pub zeros_end : (g : ℕ) (gs : List ℕ) → (g ≢ 0) → zeros (g ∷ gs) ≡ 0
unfolding zeros
zeros_end g gs e = ap (λ t. cond t (zeros gs + 1) 0) (ne_eqb g 0 e)

pub longest_is : (g : ℕ) (gs : List ℕ) → longest (g ∷ gs) ≡ max (zeros (g ∷ gs)) (longest gs)
unfolding longest
longest_is g gs = refl

pub first_here : (n g : ℕ) (gs : List ℕ) → zeros (g ∷ gs) ≡ n → first_run n (g ∷ gs) ≡ 0
unfolding first_run
first_here n g gs e = ap (λ t. cond t 0 (first_run n gs + 1)) (eq-eqb (zeros (g ∷ gs)) n e)

pub first_later : (n g : ℕ) (gs : List ℕ) → (zeros (g ∷ gs) ≢ n) → first_run n (g ∷ gs) ≡ first_run n gs + 1
unfolding first_run
first_later n g gs e = ap (λ t. cond t 0 (first_run n gs + 1)) (ne_eqb (zeros (g ∷ gs)) n e)

-- one group more before what was seen
module _ (gs : List ℕ) (j i run place count : ℕ) (at : i ≡ j + 1) (inside : i ≤ length gs) (s : Seen gs i run place count) where
  split : drop j gs ≡ slice_index gs j ∷ drop (j + 1) gs
  split = drop_more gs j 0 (omega arith)

  from : drop i gs ≡ drop (j + 1) gs
  from = ap (λ n. drop n gs) at

  pub run_more : (run' : ℕ) → slice_index gs j ≡ 0 → run' ≡ run + 1 → (run' ≡ zeros (drop j gs)) × (j + run' ≤ length gs)
  run_more run' e is = (
    is ∙ ap (λ n. n + 1) (s.run_is ∙ ap zeros from) ∙ sym (zeros_more (slice_index gs j) (drop (j + 1) gs) e) ∙ ap zeros (sym split),
    omega (arith, s.run_within),
  )

  pub run_end : (run' : ℕ) → (slice_index gs j ≢ 0) → run' ≡ 0 → (run' ≡ zeros (drop j gs)) × (j + run' ≤ length gs)
  run_end run' e is = (
    is ∙ sym (zeros_end (slice_index gs j) (drop (j + 1) gs) e) ∙ ap zeros (sym split),
    omega arith,
  )

  module _ (run' : ℕ) (is : (run' ≡ zeros (drop j gs)) × (j + run' ≤ length gs)) where
    front : zeros (slice_index gs j ∷ drop (j + 1) gs) ≡ run'
    front = sym (is.0 ∙ ap zeros split)

    behind : longest (drop (j + 1) gs) ≡ count
    behind = sym (s.count_is ∙ ap longest from)

    both : longest (drop j gs) ≡ max run' count
    both = ap longest split ∙ longest_is (slice_index gs j) (drop (j + 1) gs) ∙ ap₂ max front behind

    seen_here : count ≤ run' → Seen gs j run' j run'
    seen_here h =
        let all : longest (drop j gs) ≡ run' = both ∙ omega arith in
        let here : first_run (longest (drop j gs)) (drop j gs) ≡ 0 = ap₂ first_run all split ∙ first_here run' (slice_index gs j) (drop (j + 1) gs) front in
        record { run_is = is.0; count_is = sym all; place_is = omega arith; run_within = is.1; within = is.1 }

    seen_later : run' < count → Seen gs j run' place count
    seen_later h =
        let all : longest (drop j gs) ≡ count = both ∙ omega arith in
        let there : first_run (longest (drop j gs)) (drop j gs) ≡ first_run count (drop (j + 1) gs) + 1 = ap₂ first_run all split ∙ first_later count (slice_index gs j) (drop (j + 1) gs) (λ e. omega (arith, front)) in
        let was : place ≡ i + first_run count (drop (j + 1) gs) = s.place_is ∙ ap₂ (λ n r. i + first_run n r) (sym s.count_is) from in
        record { run_is = is.0; count_is = sym all; place_is = omega arith; run_within = is.1; within = s.within }

    pub seen_more : (p n : ℕ) → p ≡ cond (nat_le count run') j place → n ≡ cond (nat_le count run') run' count → Seen gs j run' p n
    seen_more p n at size =
        ⊎_elim
        (λ h.
        let none = lt-leb count run' h in
        subst (λ x. Seen gs j run' x n) (sym (at ∙ cond-false (nat_le count run') j place none))
        (subst (λ x. Seen gs j run' place x) (sym (size ∙ cond-false (nat_le count run') run' count none)) (seen_later h)))
        (λ h.
        let some = le-leb count run' h in
        subst (λ x. Seen gs j run' x n) (sym (at ∙ cond-true (nat_le count run') j place some))
        (subst (λ x. Seen gs j run' j x) (sym (size ∙ cond-true (nat_le count run') run' count some)) (seen_here h)))
        (cases_lt run' count)
