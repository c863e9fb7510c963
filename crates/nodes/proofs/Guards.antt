-- What reads 0 outside a guard, as the fields of a memory do outside its nodes.
use Rattle.std.proofs.Common.{◌≡◌, ℕ, Bool, true, false, cond, refl}
use Rattle.std.proofs.lemmas.Bool.{false≢true}

-- it is changed at one place inside
pub guarded : (g b : Bool) (x y v : ℕ) → (g ≡ true → x ≡ cond b v y) → (b ≡ true → g ≡ true) → cond g x 0 ≡ cond b v (cond g y 0)
guarded true b x y v h k = h refl
guarded false true x y v h k = absurd (false≢true (k refl))
guarded false false x y v h k = refl

-- or is left inside
pub left : (g : Bool) (x y : ℕ) → (g ≡ true → x ≡ y) → cond g x 0 ≡ cond g y 0
left true x y h = h refl
left false x y h = refl
