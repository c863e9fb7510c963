-- The table of masks: each bit of each entry, tested once over the whole table.
use Rattle.std.proofs.Common.{◌≡◌, ℕ, zero, suc, ◌/◌, ◌^◌, ◌<◌, Bool, true, false, ◌&&◌, ◌||◌, eqb, leb, get_or, ⊎_elim, refl, sym, ◌∙◌, arith}
use Rattle.std.proofs.Math.Nat.{div-eq_of_lt, pow-le-pow_right, div-one}
use Rattle.std.proofs.lemmas.Bool.{agree_below, agree_below_at, and_parts, and_from, or_cases, or_left, or_right, eqb-true, eq-eqb, leb-true, le-leb, cases_lt}
use Rattle.model.specs.Nodes.{marked}
use Rattle.masks.specs.declared.TheConstants.{MASKS}
use Rattle.masks.specs.Ways.{OnTheWay, MarksTheWays}
use Rattle.masks.proofs.Steps.{halved}

-- k is one of i, i / 2 and so on, so many of them
abbrev among : ℕ → ℕ → ℕ → Bool
among zero k i = false
among (suc n) k i = eqb i k || among n k (i / 2)

-- the test of a position on the way; a position below 64 has at most 6 on its way
abbrev on_way : ℕ → ℕ → Bool
on_way i k = leb 1 k && among 6 k i

among_found : (n k i : ℕ) → among n k i ≡ true → (d : ℕ) × (k ≡ i / 2 ^ d)
among_found zero k i h = cc
among_found (suc n) k i h =
    ⊎_elim (λ e. (0, sym (div-one i ∙ eqb-true i k e)))
    (λ e. let r = among_found n k (i / 2) e in (suc r.0, r.1 ∙ halved i r.0))
    (or_cases (eqb i k) (among n k (i / 2)) h)

among_has : (n k i d : ℕ) → d < n → k ≡ i / 2 ^ d → among n k i ≡ true
among_has zero k i d lt e = absurd (omega arith)
among_has (suc n) k i zero lt e = or_left (eqb i k) (among n k (i / 2)) (eq-eqb i k (sym (e ∙ div-one i)))
among_has (suc n) k i (suc d) lt e = or_right (eqb i k) (among n k (i / 2)) (among_has n k (i / 2) d (omega arith) (e ∙ sym (halved i d)))

way_test : (i k : ℕ) → on_way i k ≡ true → OnTheWay k i
way_test i k h = let both = and_parts (leb 1 k) (among 6 k i) h in (leb-true 1 k both.0, among_found 6 k i both.1)

way_passes : (i k : ℕ) → i < 64 → OnTheWay k i → on_way i k ≡ true
way_passes i k small (some, (d, e)) =
    and_from (leb 1 k) (among 6 k i) (le-leb 1 k some)
    (⊎_elim (λ few. among_has 6 k i d few e)
    (λ many. absurd (let big = pow-le-pow_right {n = 2} (omega arith) {i = 6} {j = d} many in let none : i / 2 ^ d ≡ 0 = div-eq_of_lt (omega arith) in omega arith))
    (cases_lt d 6))

every_bit : agree_below (λ i. agree_below (marked (get_or MASKS i 0)) (on_way i) 64) (λ i. true) 64 ≡ true
unfolding marked
every_bit = refl

pub marks_the_ways : MarksTheWays MASKS
marks_the_ways i k a b =
    let same = agree_below_at (marked (get_or MASKS i 0)) (on_way i) 64 k
    (agree_below_at (λ i. agree_below (marked (get_or MASKS i 0)) (on_way i) 64) (λ i. true) 64 i every_bit a) b in
    (λ m. way_test i k (sym same ∙ m), λ w. same ∙ way_passes i k a w)
