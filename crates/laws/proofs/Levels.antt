-- A prefix lies at one stride, and on the way there is a child index for each stride before it.
use Rattle.std.proofs.Common.{◌≡◌, ℕ, zero, suc, ◌+◌, ◌-◌, ◌<◌, ltb, List, [], ◌∷◌, length, get_or, take, drop, ap, ◌∙◌, le_of_suc-le-suc, not-suc-le-zero, add_assoc, arith, length-drop, drop-drop, ltb-false, ltb-true, le-ltb, lt-ltb}
use Rattle.bits.specs.Rows.{Bits, number}
use Rattle.bits.proofs.Orders.{holds, fails, decided}
use Rattle.laws.specs.Places.{PlaceLaws}
use Rattle.laws.proofs.Plans.{planned}
use Rattle.model.specs.Places.{Lies, indexes, level}
use Rattle.model.specs.Plans.{offset, offsets_from, sum}

pub somewhere : (plan : List ℕ) (len : ℕ) → len < sum plan → Lies plan (level plan len) len
somewhere [] len h = absurd (not-suc-le-zero h)
somewhere (s ∷ ss) len h = elim (decided (ltb len s)) [
  | holds e ↦ simp e (let l = ltb-true len s e in (omega arith, omega arith, omega arith))
  | fails e ↦ simp e
      (let l = ltb-false len s e in
      let rest = somewhere ss (len - s) (omega arith) in
      (omega arith, omega arith, omega arith))
]

pub nowhere_else : (len k : ℕ) (plan : List ℕ) → Lies plan k len → k ≡ level plan len
nowhere_else len k [] h = absurd (not-suc-le-zero h.0)
nowhere_else len zero (s ∷ ss) h = simp (lt-ltb len s (let c = h.2 in omega arith))
nowhere_else len (suc k) (s ∷ ss) h =
    let b = h.1 in
    let c = h.2 in
    simp (le-ltb len s (omega arith)) (ap suc (nowhere_else (len - s) k ss (le_of_suc-le-suc h.0, omega arith, omega arith)))

offset_from : (o : ℕ) (plan : List ℕ) (k : ℕ) → k < length plan → get_or (offsets_from o plan) k 0 ≡ o + offset plan k
offset_from o [] k h = absurd (not-suc-le-zero h)
offset_from o (s ∷ ss) zero h = omega arith
offset_from o (s ∷ ss) (suc k) h = offset_from (o + s) ss k (le_of_suc-le-suc h) ∙ add_assoc o s (offset ss k)

one_index_each : (plan : List ℕ) (p : Bits) → length p < sum plan → length (indexes plan p) ≡ level plan (length p)
one_index_each [] p h = absurd (not-suc-le-zero h)
one_index_each (s ∷ ss) p h = elim (decided (ltb (length p) s)) [
  | holds e ↦ simp e
  | fails e ↦ simp e
      (let l = ltb-false (length p) s e in
      let left = length-drop s p in
      ap suc (one_index_each ss (drop s p) (omega arith) ∙ ap (level ss) left))
]

index_at : (plan : List ℕ) (p : Bits) (k : ℕ) → k < length (indexes plan p)
    → get_or (indexes plan p) k 0 ≡ number (take (get_or plan k 0) (drop (offset plan k) p))
index_at [] p k h = absurd (not-suc-le-zero h)
index_at (s ∷ ss) p zero h = elim (decided (ltb (length p) s)) [
  | holds e ↦ absurd (not-suc-le-zero (simp e at h))
  | fails e ↦ simp e
]
index_at (s ∷ ss) p (suc k) h = elim (decided (ltb (length p) s)) [
  | holds e ↦ absurd (not-suc-le-zero (simp e at h))
  | fails e ↦ simp e
      (index_at ss (drop s p) k (le_of_suc-le-suc (simp e at h)) ∙ ap (λ (x : Bits). number (take (get_or ss k 0) x)) (drop-drop (offset ss k) s p))
]

pub place_laws : PlaceLaws
place_laws =
    record {
      somewhere = λ W len plan h l. let t = (planned W plan h).total in somewhere plan len (omega arith);
      nowhere_else = nowhere_else;
      offset_at = λ plan k h. let e = offset_from 0 plan k h in omega arith;
      one_index_each = λ W plan p h l. let t = (planned W plan h).total in one_index_each plan p (omega arith);
      index_at = index_at;
    }
