-- The way to a position, one step after the other.
use Rattle.std.proofs.Common.{◌≡◌, ℕ, zero, suc, ◌/◌, ◌^◌, ◌≤◌, ◌⊎◌, inl, inr, sym, ap, ◌∙◌, arith}
use Rattle.std.proofs.Math.Nat.{div-le_self, div-one}
use Rattle.std.proofs.lemmas.Nat.{shr-shr}
use Rattle.masks.specs.Ways.{OnTheWay}

pub halved : (i d : ℕ) → i / 2 / 2 ^ d ≡ i / 2 ^ suc d
halved i d = shr-shr i 1 d ∙ ap (λ (k : ℕ). i / 2 ^ k) (omega arith)

pub itself : (i : ℕ) → 1 ≤ i → OnTheWay i i
itself i some = (some, (0, sym (div-one i)))

pub further : (k i : ℕ) → OnTheWay k (i / 2) → OnTheWay k i
further k i (some, (d, e)) = (some, (suc d, e ∙ halved i d))

pub not_above : (k i : ℕ) → OnTheWay k i → k ≤ i
not_above k i (some, (d, e)) = let h = div-le_self i (2 ^ d) in omega arith

-- a position on the way is the position itself, or on the way to half of it
pub first_step : (k i : ℕ) → OnTheWay k i → (k ≡ i) ⊎ OnTheWay k (i / 2)
first_step k i (some, (zero, e)) = inl (e ∙ div-one i)
first_step k i (some, (suc d, e)) = inr (some, (d, e ∙ sym (halved i d)))
