-- What the answer to a reading says: where it is granted, that the place is there and what is held; where it is refused, that it is not.
use Rattle.std.proofs.Common.{◌≡◌, ℕ, Bool, true, false, Ok, Err, refl, arith}
use Rattle.faults.specs.declared.Fault.{Fault}
use Rattle.faults.specs.declared.Refusal.TheVariants.{Place}
use Rattle.faults.specs.Numbers.{of_memory}
use Rattle.nodes.specs.Fields.{read, write}

pub granted : (there : Bool) (held v : ℕ) → Ok v ≡ read there held → (there ≡ true) × (v ≡ held)
granted true held v e = (refl, cc)
granted false held v e = cc

pub refused : (there : Bool) (held : ℕ) (f : Fault) → Err f ≡ read there held → (there ≡ false) × (f ≡ of_memory Place)
refused true held f e = cc
refused false held f e = (refl, cc)

-- a write to a place that is there, of a value that fits, is never refused
pub never_refused : (there fits : Bool) (f : Fault) → there ≡ true → fits ≡ true → Err f ≡ write there fits → ⊥
never_refused true true f t u e = let z : ◌≡◌ {A = ℕ} 0 1 = cc in omega arith
never_refused true false f t u e = let z : ◌≡◌ {A = ℕ} 0 1 = cc in omega arith
never_refused false fits f t u e = let z : ◌≡◌ {A = ℕ} 0 1 = cc in omega arith
