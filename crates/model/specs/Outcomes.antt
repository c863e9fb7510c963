-- What a call comes to: it is granted, or refused by a number, at a layer and a place.
use Rattle.std.specs.Prelude.{ℕ, Bool, true, false, Ok, Err, Result}
use Rattle.faults.specs.declared.Fault.{Fault}
use Rattle.faults.specs.declared.Layer.{Layer}
use Rattle.faults.specs.Numbers.{number_of}

pub data Outcome (A : Type 0) : Type 0 where
  granted : A → Outcome A
  refused : ℕ → Layer → ℕ → Outcome A

module _ {A : Type 0} where
  -- goes on where the test passes, and refuses where it fails
  abbrev pub provided : Bool → ℕ → Layer → ℕ → Outcome A → Outcome A
  provided true number layer place next = next
  provided false number layer place next = refused number layer place

  abbrev pub is_granted : Outcome A → Bool
  is_granted (granted a) = true
  is_granted (refused number layer place) = false

-- goes on with what was granted, and passes a refusal on whole
abbrev pub and_then : {A B : Type 0} → Outcome A → (A → Outcome B) → Outcome B
and_then (granted a) next = next a
and_then (refused number layer place) next = refused number layer place

-- what a program's result comes to: its answer in the model's words, or its fault by number, layer and place
abbrev pub outcome : {T A : Type 0} → (T → A) → Result T Fault → Outcome A
outcome meant (Ok x) = granted (meant x)
outcome meant (Err f) = refused (number_of f.refusal) f.layer f.place
