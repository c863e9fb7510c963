-- The plain list that a plan's strides and routes stand for, and what the result of a call that needs memory says.
use Rattle.std.specs.Prelude.{◌≡◌, ℕ, true, List, Option, Some, None, Ok, Err, Result}
use Rattle.faults.specs.Numbers.{number_of}
use Rattle.model.specs.Calls.{Plain, shut, holding}
use Rattle.model.specs.Outcomes.{Outcome, granted, refused, is_granted}
use Rattle.model.specs.Routes.{Routes}
use Rattle.routes.specs.declared.failure.Failure.{Failure}
use Rattle.routes.specs.declared.failure.Failure.TheVariants.{Refused, NoMemory}

-- shut while there is no plan
abbrev pub planned : Option (List ℕ) → Routes → Plain
planned None routes = shut
planned (Some strides) routes = holding strides routes

module _ {T : Type 0} where
  -- A result says what the call comes to in the model. Want of memory is answered only where the model grants the call.
  abbrev pub Says : {A : Type 0} → (T → A) → Result T Failure → Outcome A → Type 0
  Says told (Ok x) o = granted (told x) ≡ o
  Says told (Err (Refused f)) o = refused (number_of f.refusal) f.layer f.place ≡ o
  Says told (Err NoMemory) o = is_granted o ≡ true

  -- what a call leaves: for want of memory what was there, else what the model leaves
  abbrev pub leaves : Result T Failure → Plain → Plain → Plain
  leaves (Ok x) was then = then
  leaves (Err (Refused f)) was then = then
  leaves (Err NoMemory) was then = was
