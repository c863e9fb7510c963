-- The highest bit of a bitmap under the mask of a position is the longest match; and that is the one of the model.
use Rattle.std.proofs.Common.{◌≡◌, ℕ, zero, suc, ◌+◌, ◌-◌, ◌*◌, ◌/◌, ◌%◌, ◌^◌, ◌<◌, ◌≤◌, Bool, true, false, cond, Option, Some, None, MatchOption, IfNone, IfSome, bit_and, ⊎_elim, refl, sym, ap, ◌∙◌, subst, pow-suc, arith}
use Rattle.std.proofs.Math.Nat.{div-eq_of_lt-le, div-one, one-le-pow}
use Rattle.std.proofs.lemmas.Bool.{eqb-true, eq-eqb, ne_eqb, cases_Bool, cases_lt, both_ways}
use Rattle.std.proofs.lemmas.Nat.Bits.{bit_at_and, bit_at-lt, bit_at-zero, bit_at_above}
use Rattle.std.specs.Int.{bit_at}
use Rattle.std.specs.Option.{option_map}
use Rattle.std.specs.Prelude.{◌↔◌, IsTrue}
use Rattle.model.specs.Nodes.{marked, deepest}
use Rattle.masks.specs.Ways.{OnTheWay, NoneMarked, Highest, HighestBit}
use Rattle.masks.proofs.Steps.{halved, itself, further, not_above, first_step}

pub is_bit : (v k : ℕ) → marked v k ≡ true → bit_at v k ≡ 1
unfolding marked
is_bit v k h = eqb-true (bit_at v k) 1 h

set_bit : (v k : ℕ) → bit_at v k ≡ 1 → marked v k ≡ true
unfolding marked
set_bit v k h = eq-eqb (bit_at v k) 1 h

no_bit : (v k : ℕ) → bit_at v k ≡ 0 → marked v k ≡ false
unfolding marked
no_bit v k h = ne_eqb (bit_at v k) 1 (λ e. omega arith)

-- no number has a logarithm where there is no bit
pub nothing : (v : ℕ) (o : Option ℕ) → v ≡ 0 → IfSome o (λ p. 2 ^ p ≤ v) → o ≡ None
nothing v None e least = refl
nothing v (Some p) e least = absurd (let o = one-le-pow p 2 (omega arith) in omega arith)

-- each number has a highest bit, unless it is 0
pub highest_bit : (n v : ℕ) → v < 2 ^ n → (o : Option ℕ) × HighestBit v o × IfSome o (λ p. p < n)
highest_bit zero v h = (None, omega arith, tt)
highest_bit (suc n) v h =
    ⊎_elim
    (λ lt. let rest = highest_bit n v lt in (rest.0, rest.1, more rest.0 rest.2))
    (λ ge. let d = pow-suc 2 n in (Some n, (omega arith, omega arith), omega arith))
    (cases_lt v (2 ^ n))
  where
    more : (o : Option ℕ) → IfSome o (λ p. p < n) → IfSome o (λ p. p < suc n)
    more None l = tt
    more (Some p) l = omega arith

-- a bitmap, and the mask of a position i below 64
module _ (bitmap mask i : ℕ) (inside : i < 64) (masks : (k : ℕ) → k < 64 → IsTrue (marked mask k) ↔ OnTheWay k i) where
  abbrev seen : ℕ
  seen = bit_and bitmap mask

  -- on the way the bits are those of the bitmap
  seen_on_the_way : (k : ℕ) → OnTheWay k i → bit_at seen k ≡ bit_at bitmap k
  seen_on_the_way k w =
      let low = not_above k i w in
      let one = is_bit mask k ((masks k (omega arith)).1 w) in
      let both = bit_at_and bitmap mask k in
      let small = bit_at-lt bitmap k in
      omega arith

  pub none_marked : seen ≡ 0 → NoneMarked bitmap i
  none_marked e k w = no_bit bitmap k (sym (seen_on_the_way k w) ∙ ap (λ (v : ℕ). bit_at v k) e ∙ bit_at-zero k)

  pub highest_marked : (p : ℕ) → p < 64 → 2 ^ p ≤ seen → seen < 2 * 2 ^ p → Highest bitmap i p
  highest_marked p low least most =
      let top : seen / 2 ^ p ≡ 1 = div-eq_of_lt-le {k = 1} (2 ^ p) {m = seen} (omega arith) (omega arith) in
      let one : bit_at seen p ≡ 1 = ap (λ (q : ℕ). q % 2) top in
      let both = bit_at_and bitmap mask p in
      let b = bit_at-lt bitmap p in
      let m = bit_at-lt mask p in
      record {
        on_the_way = (masks p low).0 (set_bit mask p (omega arith));
        is_marked = set_bit bitmap p (omega arith);
        none_above = λ k w above. no_bit bitmap k (sym (seen_on_the_way k w) ∙ bit_at_above seen (suc p) k (let d = pow-suc 2 p in omega arith) (omega arith));
      }

  -- what a logarithm of the seen bits tells
  pub found_match : (o : Option ℕ) → IfNone o (seen ≡ 0) → IfSome o (λ p. 2 ^ p ≤ seen) → IfSome o (λ p. seen < 2 * 2 ^ p) → IfSome o (λ p. p < 64)
      → MatchOption o (NoneMarked bitmap i) (Highest bitmap i)
  found_match None none least most low = none_marked none
  found_match (Some p) none least most low = highest_marked p low least most

  pub found_bit : (o : Option ℕ) → HighestBit seen o → IfSome o (λ p. p < 64) → MatchOption o (NoneMarked bitmap i) (Highest bitmap i)
  found_bit None none low = none_marked none
  found_bit (Some p) top low = highest_marked p low top.0 top.1

-- ---- the model's longest match

module _ (bitmap : ℕ) where
  -- i has s bits, or more
  abbrev Long : ℕ → ℕ → Type 0
  Long s i = 2 ^ s ≤ 2 * i + 1

  some_bit : (n i : ℕ) → Long (suc n) i → 1 ≤ i
  some_bit n i h = let d = pow-suc 2 n in let o = one-le-pow n 2 (omega arith) in omega arith

  half_long : (n i : ℕ) → Long (suc n) i → Long n (i / 2)
  half_long n i h = let d = pow-suc 2 n in omega arith

  none_deepest : (s i : ℕ) → Long s i → NoneMarked bitmap i → deepest bitmap s i ≡ None
  none_deepest zero i h none = refl
  none_deepest (suc n) i h none =
      ap (λ (t : Bool). cond t (Some n) (deepest bitmap n (i / 2))) (none i (itself i (some_bit n i h)))
      ∙ none_deepest n (i / 2) (half_long n i h) (λ k w. none k (further k i w))

  some_deepest : (s i p : ℕ) → Long s i → i < 2 ^ s → Highest bitmap i p
      → (more : ℕ) × (deepest bitmap s i ≡ Some more) × (more < s) × (p ≡ i / 2 ^ (s - 1 - more))
  some_deepest zero i p h small top = absurd (let a = not_above p i top.on_the_way in let b = top.on_the_way.0 in omega arith)
  some_deepest (suc n) i p h small top =
      let way = itself i (some_bit n i h) in
      let low = not_above p i top.on_the_way in
      ⊎_elim
      (λ e.
      let there : p ≡ i = ⊎_elim (λ lt. absurd (both_ways (marked bitmap i) (top.none_above i way lt) e)) (λ ge. omega arith) (cases_lt p i) in
      let none : suc n - 1 - n ≡ 0 = omega arith in
      (n, ap (λ (t : Bool). cond t (Some n) (deepest bitmap n (i / 2))) e, omega arith, there ∙ sym (ap (λ (d : ℕ). i / 2 ^ d) none ∙ div-one i)))
      (λ e.
      let shorter : OnTheWay p (i / 2) =
      ⊎_elim (λ same. absurd (both_ways (marked bitmap i) e (subst (λ (q : ℕ). marked bitmap q ≡ true) same top.is_marked))) (λ w. w) (first_step p i top.on_the_way) in
      let rest = some_deepest n (i / 2) p (half_long n i h) (let d = pow-suc 2 n in omega arith)
      (record { on_the_way = shorter; is_marked = top.is_marked; none_above = λ k w. top.none_above k (further k i w) }) in
      let m = rest.0 in (
        m,
        ap (λ (t : Bool). cond t (Some n) (deepest bitmap n (i / 2))) e ∙ rest.1,
        (let lt = rest.2 in omega arith),
        rest.3 ∙ halved i (n - 1 - m) ∙ ap (λ (d : ℕ). i / 2 ^ d) (let lt = rest.2 in omega arith),
      ))
      (cases_Bool (marked bitmap i))

  long_enough : (s i : ℕ) → 2 ^ (s - 1) ≤ i → Long s i
  long_enough zero i h = omega arith
  long_enough (suc n) i h = let d = pow-suc 2 n in let e : suc n - 1 ≡ n = omega arith in let l = ap (λ (k : ℕ). 2 ^ k) e in omega arith

  pub is_deepest : (s i : ℕ) (o : Option ℕ) → MatchOption o (NoneMarked bitmap i) (Highest bitmap i) → 2 ^ (s - 1) ≤ i → i < 2 ^ s
      → o ≡ option_map (λ more. i / 2 ^ (s - 1 - more)) (deepest bitmap s i)
  is_deepest s i None none a b = sym (ap (option_map (λ more. i / 2 ^ (s - 1 - more))) (none_deepest s i (long_enough s i a) none))
  is_deepest s i (Some p) top a b =
      let d = some_deepest s i p (long_enough s i a) b top in
      ap Some d.3 ∙ sym (ap (option_map (λ more. i / 2 ^ (s - 1 - more))) d.1)

-- nothing is marked above the last position
pub no_bit_above : (bitmap k : ℕ) → bitmap < 2 ^ 64 → 64 ≤ k → marked bitmap k ≡ false
no_bit_above bitmap k small h = no_bit bitmap k (bit_at_above bitmap 64 k small h)
