-- Two addresses whose first bits are the same.
use Rattle.std.proofs.Common.{◌≡◌, ℕ, ◌≤◌, min, Bool, true, false, length, take, sym, refl, ap, ap₂, ◌∙◌, subst, arith, length-take-le}
use Rattle.bits.specs.Rows.{Bits, padded}
use Rattle.bits.specs.Order.{begins, same}
use Rattle.bits.proofs.Orders.{same_self, same_eq}
use Rattle.bits.proofs.Padded.{take_first}
use Rattle.bits.proofs.Prefixes.{take_more_than, begins_front, front_from_begins}

same_or_not : (w n : ℕ) (xs ys : Bits) → n ≤ length xs → n ≤ length ys → n ≤ w → (t u : Bool) → t ≡ begins (take n xs) ys → u ≡ same (padded w (take n xs)) (padded w (take n ys)) → u ≡ t
same_or_not w n xs ys hx hy hw true true e f = refl
same_or_not w n xs ys hx hy hw false false e f = refl
same_or_not w n xs ys hx hy hw true false e f =
    let l : length (take n xs) ≡ n = length-take-le n xs hx in
    let q : take n ys ≡ take n xs = subst (λ i. take i ys ≡ take n xs) l (front_from_begins (take n xs) ys (sym e)) in
    f ∙ ap (λ (r : Bits). same (padded w (take n xs)) (padded w r)) q ∙ same_self (padded w (take n xs))
same_or_not w n xs ys hx hy hw false true e f =
    let p : padded w (take n xs) ≡ padded w (take n ys) = same_eq (padded w (take n xs)) (padded w (take n ys)) (sym f) in
    let q : take n xs ≡ take n ys = sym (take_first w n xs hx hw) ∙ ap (take n) p ∙ take_first w n ys hy hw in
    sym (e ∙ ap (λ (r : Bits). begins r ys) q ∙ begins_front n ys)

-- they are exactly where those of the one begin the other
pub first_same : (w len : ℕ) (xs ys : Bits) → length xs ≡ w → length ys ≡ w → same (padded w (take len xs)) (padded w (take len ys)) ≡ begins (take len xs) ys
first_same w len xs ys lx ly =
    let n = min len w in
    let tx = take_more_than xs n w len lx refl in
    let ty = take_more_than ys n w len ly refl in
    ap₂ (λ (p q : Bits). same (padded w p) (padded w q)) tx ty
    ∙ same_or_not w n xs ys (omega arith) (omega arith) (omega arith) _ _ refl refl
    ∙ ap (λ (r : Bits). begins r ys) (sym tx)
