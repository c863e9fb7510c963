-- The parts of a text before and behind its first two colons in a row.
use Rattle.std.proofs.Common.{◌≡◌, ℕ, zero, suc, ◌+◌, ◌<◌, ◌≤◌, List, [], ◌∷◌, length, slice_index, take, drop, Some, None, ap, ◌∙◌, ⊎_elim, arith}
use Rattle.std.proofs.lemmas.Bool.{cases_eq}
use Rattle.text.specs.Words.{parts, further, TwoColons}
use Rattle.text.specs.Reading.{parts_here, parts_single, parts_colon, parts_empty}

-- two colons one byte further on
later : (c : ℕ) (cs : List ℕ) (k : ℕ) → TwoColons cs k → TwoColons (c ∷ cs) (suc k)
later c cs k h = let e : suc k + 1 ≡ suc (k + 1) = omega arith in (h.0, ap (slice_index (c ∷ cs)) e ∙ h.1)

earlier : (c : ℕ) (cs : List ℕ) (k : ℕ) → TwoColons (c ∷ cs) (suc k) → TwoColons cs k
earlier c cs k h = let e : suc (k + 1) ≡ suc k + 1 = omega arith in (h.0, ap (slice_index (c ∷ cs)) e ∙ h.1)

-- no two colons stand in front
passed : (c : ℕ) (cs : List ℕ) → (TwoColons (c ∷ cs) 0 → ⊥) → parts (c ∷ cs) ≡ further c (parts cs)
passed c cs h = ⊎_elim
    (λ e. parts_colon c cs (λ f. h (e, f)))
    (λ e. parts_single c cs e)
    (cases_eq c 58)

pub parts_first : (t : List ℕ) (p : ℕ) → p + 2 ≤ length t → TwoColons t p → ((k : ℕ) → k < p → TwoColons t k → ⊥) → parts t ≡ Some (take p t, drop (p + 2) t)
parts_first [] p l h none = absurd (omega arith)
parts_first (c ∷ cs) zero l h none = parts_here c cs h.0 h.1
parts_first (c ∷ cs) (suc p) l h none =
    let e : suc (p + 2) ≡ suc p + 2 = omega arith in
    passed c cs (none 0 (omega arith))
    ∙ ap (further c) (parts_first cs p (omega arith) (earlier c cs p h) (λ k m f. none (suc k) (omega arith) (later c cs k f)))
    ∙ ap (λ n. Some (c ∷ take p cs, drop n (c ∷ cs))) e

pub parts_none : (t : List ℕ) → ((k : ℕ) → k + 1 < length t → TwoColons t k → ⊥) → parts t ≡ None
parts_none [] h = parts_empty
parts_none (c ∷ cs) h =
    passed c cs (λ f. h 0 (omega (arith, some cs f.1)) f)
    ∙ ap (further c) (parts_none cs (λ k l f. h (suc k) (omega arith) (later c cs k f)))
  where
    some : (cs : List ℕ) → slice_index cs 0 ≡ 58 → 0 < length cs
    some [] e = omega arith
    some (d ∷ ds) e = omega arith
