-- The tests of a plan, one after the other.
use Rattle.std.proofs.Common.{◌≡◌, ℕ, ◌+◌, ◌-◌, ◌<◌, ◌≤◌, true, false, eqb, ◌⊎◌, List, length, get_or, drop, ◌∙◌, arith}
use Rattle.std.proofs.lemmas.List.{at_drop_more}
use Rattle.std.proofs.lemmas.Bool.Decides.{nat_tests}
use Rattle.model.specs.Plans.{sum, in_range, plan_ok}

pub plan_size : (W : ℕ) (ss : List ℕ) → (length ss ≡ 0) ⊎ (32 < length ss) → false ≡ plan_ok W ss
unfolding plan_ok
plan_size W ss h = grind (arith, nat_tests)

pub plan_range : (W : ℕ) (ss : List ℕ) → in_range ss ≡ false → false ≡ plan_ok W ss
unfolding plan_ok
plan_range W ss h = grind (arith, nat_tests)

-- a sum is one above the width where one less is the width
pub one_above : (s W : ℕ) → 0 < s → eqb (s - 1) W ≡ eqb s (W + 1)
one_above s W some = grind (arith, nat_tests)

pub plan_sum : (W : ℕ) (ss : List ℕ) → 1 ≤ length ss → length ss ≤ 32 → in_range ss ≡ true → eqb (sum ss) (W + 1) ≡ plan_ok W ss
unfolding plan_ok
plan_sum W ss a b h = grind (arith, nat_tests)

module _ (ss : List ℕ) (i : ℕ) (inside : i < length ss) where
  pub range_stop : (get_or ss i 0 < 1) ⊎ (6 < get_or ss i 0) → in_range (drop i ss) ≡ false
  range_stop h = at_drop_more in_range ss i 0 inside ∙ grind (arith, nat_tests)

  pub range_more : 1 ≤ get_or ss i 0 → get_or ss i 0 ≤ 6 → in_range (drop i ss) ≡ in_range (drop (i + 1) ss)
  range_more a b = at_drop_more in_range ss i 0 inside ∙ grind (arith, nat_tests)

  pub sum_more : sum (drop i ss) ≡ get_or ss i 0 + sum (drop (i + 1) ss)
  sum_more = at_drop_more sum ss i 0 inside
