-- What a reading behind the first bytes of a text says in the whole text.
use Rattle.std.proofs.Common.{◌≡◌, ℕ, ◌+◌, Result, Ok, Err, MatchResult, subst}
use Rattle.std.specs.Result.{IsErrAnd}
use Rattle.text.specs.declared.Unreadable.{Unreadable}

abbrev Moved : {T : Type 0} → ℕ → Result T Unreadable → Result T Unreadable → Type 0
Moved bytes read r = MatchResult read (λ x. r ≡ Ok x) (λ e. IsErrAnd r (λ d. d.place ≡ bytes + e.place))

module _ {T : Type 0} (bytes : ℕ) (P : T → Type 0) (Q : Unreadable → Type 0) where
  pub behind_ok : (read : Result T Unreadable) (x : T) → MatchResult read P Q → Moved bytes read (Ok x) → P x
  behind_ok (Ok y) x p m = let e : y ≡ x = cc in subst P e p
  behind_ok (Err d) x q m = absurd m

  pub behind_err : (read : Result T Unreadable) (d : Unreadable) → MatchResult read P Q → Moved bytes read (Err d) → (e : Unreadable) × Q e × (d.place ≡ bytes + e.place)
  behind_err (Ok y) d p m = cc
  behind_err (Err e) d q m = (e, q, m)
