-- The array that a function of the index makes.
use Rattle.std.proofs.Common.{◌≡◌, ℕ, zero, suc, ◌+◌, ◌<◌, ◌≤◌, List, get_or, map, sym, refl, ap, ◌∙◌, subst, ⊎_elim, arith}
use Rattle.std.specs.List.{range_with_len}
use Rattle.std.specs.Array.{IsFromFnResult, IsFromFnResultFrom}
use Rattle.std.specs.Fn.{Called}
use Rattle.std.proofs.lemmas.Bool.{cases_lt}
use Rattle.std.proofs.lemmas.List.FromFn.{fill_by_all}
use denote.Param.Members.{Mut}

module _ {F : Type 0} (g : Mut F (ℕ × Unit {0}) ℕ) (h : ℕ → ℕ) (f : F) (computes : (i y : ℕ) (q : F) → Called g f (i, tt) y q → (q ≡ f) × (y ≡ h i)) (ys : List ℕ) where
  each : (i n : ℕ) (p : F) → p ≡ f → IsFromFnResultFrom g p ys i n → (k : ℕ) → i ≤ k → k < i + n → get_or ys k 0 ≡ h k
  each i zero p e r k l u = absurd (omega arith)
  each i (suc n) p e (q, y, at, called, rest) k l u =
      let is = computes i y q (subst (λ x. Called g x (i, tt) y q) e called) in
      ⊎_elim
      (λ m. each (i + 1) n q is.0 rest k (omega arith) (omega arith))
      (λ m. let same : i ≡ k = omega arith in ap (λ j. get_or ys j 0) (sym same) ∙ at.1 0 ∙ is.1 ∙ ap h same)
      (cases_lt i k)

  pub from_fn_is : (n : ℕ) → IsFromFnResult g f ys n → ys ≡ map h (range_with_len 0 n)
  from_fn_is n r = fill_by_all h ys n 0 r.long (λ k l. each 0 n f refl r.each k (omega arith) (omega arith))
