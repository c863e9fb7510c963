-- Marking by the code's words: one bit set, one bit taken away.
use Rattle.std.proofs.Common.{◌≡◌, ℕ, ◌+◌, ◌*◌, ◌%◌, ◌^◌, ◌<◌, ◌≤◌, true, false, bit_and, bit_or, ⊎_elim, sym, ap, ◌∙◌, arith}
use Rattle.std.proofs.Math.Nat.{div-eq_of_lt}
use Rattle.std.proofs.lemmas.Bool.{both_ways, cases_Bool, cases_eq, cases_lt, eqb-false}
use Rattle.std.proofs.lemmas.Nat.{one_shl}
use Rattle.std.proofs.lemmas.Nat.Bits.{bit_at-lt, bit_at-pow_other, bit_at-pow_same, bit_at-zero, bit_at_and, same_from_bits}
use Rattle.std.specs.Int.{bit_at}
use Rattle.std.specs.Int.Bits.{or_add_and}
use Rattle.model.specs.Nodes.{marked}
use Rattle.masks.specs.Marks.{with_mark}
use Rattle.masks.proofs.Matches.{is_bit, no_bit_above}

clear_bit : (b j : ℕ) → marked b j ≡ false → bit_at b j ≡ 0
unfolding marked
clear_bit b j h = let small = bit_at-lt b j in let not_one = eqb-false (bit_at b j) 1 h in omega arith

module _ (b j : ℕ) where
  -- of one bit there remains what the bitmap has of it
  and_of : (v : ℕ) → bit_at v j ≡ bit_at b j → ((i : ℕ) → (i ≡ j → ⊥) → bit_at v i ≡ 0) → bit_and b (2 ^ j) ≡ v
  and_of v here others =
      same_from_bits (bit_and b (2 ^ j)) v (λ i.
      let both = bit_at_and b (2 ^ j) i in
      ⊎_elim
      (λ e.
      let one : bit_at (2 ^ j) i ≡ 1 = ap (bit_at (2 ^ j)) e ∙ bit_at-pow_same j in
      let there : bit_at v i ≡ bit_at b i = ap (bit_at v) e ∙ here ∙ sym (ap (bit_at b) e) in
      let small = bit_at-lt b i in
      omega arith)
      (λ apart.
      let none = bit_at-pow_other j i apart in
      let gone = others i apart in
      omega arith)
      (cases_eq i j))

  pub or_marks : j < 64 → bit_or b (1 * 2 ^ j % 2 ^ 64) ≡ with_mark b j
  or_marks low =
      let both = or_add_and b (2 ^ j) in
      ap (bit_or b) (one_shl j 64 low)
      ∙ ⊎_elim
      (λ on.
      let kept = and_of (2 ^ j) (bit_at-pow_same j ∙ sym (is_bit b j on)) (λ i apart. bit_at-pow_other j i apart) in
      simp on (let e : bit_or b (2 ^ j) ≡ b = omega arith in e))
      (λ off.
      let none = and_of 0 (bit_at-zero j ∙ sym (clear_bit b j off)) (λ i apart. bit_at-zero i) in
      simp off (let e : bit_or b (2 ^ j) ≡ b + 2 ^ j = omega arith in e))
      (cases_Bool (marked b j))

  -- a marked bitmap is no smaller than the mark
  pub mark_within : marked b j ≡ true → 2 ^ j ≤ b
  mark_within on =
      let one = is_bit b j on in
      ⊎_elim (λ lt. absurd (let none = div-eq_of_lt lt in let z : bit_at b j ≡ 0 = ap (λ q. q % 2) none in omega arith)) (λ ge. ge) (cases_lt b (2 ^ j))

  pub mark_low : b < 2 ^ 64 → marked b j ≡ true → j < 64
  mark_low small on = ⊎_elim (λ lt. lt) (λ ge. absurd (both_ways (marked b j) (no_bit_above b j small ge) on)) (cases_lt j 64)
