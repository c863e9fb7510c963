-- Calls by numbers, one after another: what one more of them does, and what every table answers.
use Rattle.std.proofs.Common.{◌≡◌, ℕ, zero, suc, ◌+◌, ◌*◌, ◌%◌, ◌^◌, ◌<◌, ◌≤◌, true, false, List, [], ◌∷◌, length, take, map, Ok, Err, Result, IfOk, is_ok, refl, sym, ap, ◌∙◌, arith, eqb, set, slice_index, length-take, mod-eq_of_lt}
use Rattle.std.proofs.lemmas.Bool.{eqb-false, eqb-true}
use Rattle.std.proofs.lemmas.List.{get_or-set_other}
use Rattle.std.proofs.lemmas.Grind.{common_steps, get_or-set_at}
use Rattle.bits.proofs.Orders.{decided, fails, holds}
use Rattle.std.proofs.Math.Nat.{min-eq_left}
use Rattle.std.proofs.Math.Numerals.{suc-eq-add-one}
use Rattle.bits.specs.Rows.{row}
use Rattle.bits.specs.Order.{Sound}
use Rattle.bits.proofs.Rows.{length_row}
use Rattle.model.specs.Routes.{prefix_of}
use Rattle.faults.specs.declared.Fault.{Fault}
use Rattle.model.specs.Outcomes.{is_granted, outcome}
use Rattle.model.specs.Calls.{Answer, Plain, after, after_all, answer}
use Rattle.model.specs.Placements.{Placement}
use Rattle.table.specs.Placed.{placed, placed_all}
use Rattle.feed.specs.Fed.{Answered, call_of, list_after, told}

module _ (W N : ℕ) where
  list_suc : (plain : Plain) (calls : List ℕ) (k : ℕ) → k < length calls
      → after_all W N plain (map call_of (take (suc k) calls)) ≡ after W N (after_all W N plain (map call_of (take k calls))) (call_of (slice_index calls k))
  list_suc plain [] k low = absurd (omega arith)
  list_suc plain (c ∷ cs) zero low = refl
  list_suc plain (c ∷ cs) (suc k) low = list_suc (after W N plain (call_of c)) cs k (omega arith)

  placement_suc : (plain : Plain) (at : Placement) (calls : List ℕ) (k : ℕ) → k < length calls
      → placed_all W N plain at (map call_of (take (suc k) calls))
      ≡ placed W N (after_all W N plain (map call_of (take k calls))) (placed_all W N plain at (map call_of (take k calls))) (call_of (slice_index calls k))
  placement_suc plain at [] k low = absurd (omega arith)
  placement_suc plain at (c ∷ cs) zero low = refl
  placement_suc plain at (c ∷ cs) (suc k) low = placement_suc (after W N plain (call_of c)) (placed W N plain at (call_of c)) cs k (omega arith)

  pub list_more : (plain : Plain) (calls : List ℕ) (k : ℕ) → k < length calls
      → after_all W N plain (map call_of (take (k + 1) calls)) ≡ after W N (after_all W N plain (map call_of (take k calls))) (call_of (slice_index calls k))
  list_more plain calls k low = ap (λ j. after_all W N plain (map call_of (take j calls))) (sym (suc-eq-add-one k)) ∙ list_suc plain calls k low

  pub placement_more : (plain : Plain) (at : Placement) (calls : List ℕ) (k : ℕ) → k < length calls
      → placed_all W N plain at (map call_of (take (k + 1) calls))
      ≡ placed W N (after_all W N plain (map call_of (take k calls))) (placed_all W N plain at (map call_of (take k calls))) (call_of (slice_index calls k))
  placement_more plain at calls k low =
      ap (λ j. placed_all W N plain at (map call_of (take j calls))) (sym (suc-eq-add-one k)) ∙ placement_suc plain at calls k low

-- one more entry
pub told_more : (N : ℕ) (strides calls before : List ℕ) (i : ℕ) (xs : List ℕ) (v : ℕ) → Answered N strides calls before i xs → i < length before
    → v ≡ told (answer 32 N (list_after N strides (take i calls)) (call_of (slice_index calls i))) → Answered N strides calls before (i + 1) (set xs i v)
told_more N strides calls before i xs v t inside is =
    record {
      size = let e = t.size in grind (arith, common_steps);
      entries = λ k low. elim (decided (eqb k i)) [
        | holds e ↦
            let same = eqb-true k i e in
            get_or-set_at xs i k v 0 same (let size = t.size in omega arith) ∙ is
            ∙ ap (λ j. told (answer 32 N (list_after N strides (take j calls)) (call_of (slice_index calls j)))) (sym same)
        | fails e ↦
            let other = eqb-false k i e in
            get_or-set_other xs i k v 0 other ∙ t.entries k (let ne = other in omega arith)
      ];
      behind = λ k high. get_or-set_other xs i k v 0 (λ e. omega arith) ∙ t.behind k (omega arith);
    }

-- a prefix that is sound is at most as long as its address, and its bits are as many as its length says
sound_short : (a len : ℕ) → Sound (row 32 a) len → len ≤ 32
sound_short a len s = let long = length_row 32 a in let short = s.0 in omega arith

sound_long : (a len : ℕ) → Sound (row 32 a) len → length (prefix_of (row 32 a) len) ≡ len
sound_long a len s = length-take len (row 32 a) ∙ min-eq_left s.0

-- a hop with a length from bit 40 on
module _ (n hop x len a : ℕ) (n_is : n ≡ hop) where
  pub route_fits : hop < 65536 → x ≡ len → Sound (row 32 a) len → n + 1 + x * 2 ^ 40 % 2 ^ 64 ≤ 2 ^ 50
  route_fits small x_is s =
      let short = sound_short a len s in
      let same : x * 2 ^ 40 % 2 ^ 64 ≡ x * 2 ^ 40 = mod-eq_of_lt (omega arith) in
      omega arith

  pub route_is : x ≡ len → Sound (row 32 a) len → n + 1 + x * 2 ^ 40 % 2 ^ 64 ≡ hop + 1 + length (prefix_of (row 32 a) len) * 2 ^ 40
  route_is x_is s =
      let short = sound_short a len s in
      let long = sound_long a len s in
      let same : x * 2 ^ 40 % 2 ^ 64 ≡ x * 2 ^ 40 = mod-eq_of_lt (omega arith) in
      omega arith

-- ---- opening

pub never : false ≡ true → ⊥
never e = let z : ◌≡◌ {A = ℕ} 0 1 = cc in omega arith

-- a result is granted where it is one that went well, and then has what such a one has
pub granted_ok : {T : Type 0} (meant : T → Answer) (r : Result T Fault) → is_ok r ≡ is_granted (outcome meant r)
granted_ok meant (Ok x) = refl
granted_ok meant (Err f) = refl

pub on_ok : {T : Type 0} {P : Type 0} (r : Result T Fault) → is_ok r ≡ true → IfOk r (λ x. P) → P
on_ok (Ok x) e p = p
on_ok (Err f) e p = absurd (never e)
