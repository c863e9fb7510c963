-- What it says that strides are a plan, by parts.
use Rattle.std.proofs.Common.{◌≡◌, ℕ, ◌+◌, ◌≤◌, true, ◌&&◌, eqb, leb, List, [], ◌∷◌, length, refl, arith, eqb-true, leb-true}
use Rattle.std.proofs.lemmas.Bool.{and_parts}
use Rattle.model.specs.Plans.{in_range, plan_ok, sum}

pub record Planned (W : ℕ) (plan : List ℕ) : Type 0 where
  pub some : 1 ≤ length plan
  pub few : length plan ≤ 32
  pub range : in_range plan ≡ true
  pub total : sum plan ≡ W + 1

pub planned : (W : ℕ) (plan : List ℕ) → plan_ok W plan ≡ true → Planned W plan
unfolding plan_ok
planned W plan h =
    let sums = and_parts (leb 1 (length plan) && leb (length plan) 32 && in_range plan) (eqb (sum plan) (W + 1)) h in
    let ranges = and_parts (leb 1 (length plan) && leb (length plan) 32) (in_range plan) sums.0 in
    let sizes = and_parts (leb 1 (length plan)) (leb (length plan) 32) ranges.0 in
    record {
      some = leb-true 1 (length plan) sizes.0;
      few = leb-true (length plan) 32 sizes.1;
      range = ranges.1;
      total = eqb-true (sum plan) (W + 1) sums.1;
    }

pub record Ranged (s : ℕ) (ss : List ℕ) : Type 0 where
  pub low : 1 ≤ s
  pub high : s ≤ 6
  pub rest : in_range ss ≡ true

pub ranged : (s : ℕ) (ss : List ℕ) → in_range (s ∷ ss) ≡ true → Ranged s ss
ranged s ss h =
    let parts = and_parts (leb 1 s && leb s 6) (in_range ss) h in
    let bounds = and_parts (leb 1 s) (leb s 6) parts.0 in
    record { low = leb-true 1 s bounds.0; high = leb-true s 6 bounds.1; rest = parts.1 }

pub sum_none : (ss : List ℕ) → in_range ss ≡ true → sum ss ≡ 0 → ss ≡ []
sum_none [] g h = refl
sum_none (s ∷ ss) g h = let range = ranged s ss g in absurd (omega arith)
