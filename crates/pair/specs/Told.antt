-- What a call to both engines says of the plain list.
use Rattle.std.specs.Prelude.{◌≡◌, ℕ, true, ⊤, Ok, Err, Result}
use Rattle.faults.specs.Numbers.{number_of}
use Rattle.model.specs.Calls.{Plain}
use Rattle.model.specs.Outcomes.{Outcome, granted, refused, is_granted}
use Rattle.pair.specs.declared.failed.Failed.{Failed}
use Rattle.pair.specs.declared.failed.Failed.TheVariants.{Refused, NoMemory, Differ}

module _ {T A : Type 0} where
  -- an answer is the plain list's, and so is a refusal; for want of memory only what it grants is left undone; where the two engines differ nothing is said
  abbrev pub Tells : (T → A) → Result T Failed → Outcome A → Type 0
  Tells told (Ok x) o = granted (told x) ≡ o
  Tells told (Err (Refused f)) o = refused (number_of f.refusal) f.layer f.place ≡ o
  Tells told (Err NoMemory) o = is_granted o ≡ true
  Tells told (Err Differ) o = ⊤

-- the two engines came to the same
abbrev pub Same : {T : Type 0} → Result T Failed → Type 0
Same (Ok x) = ⊤
Same (Err (Refused f)) = ⊤
Same (Err NoMemory) = ⊤
Same (Err Differ) = ⊥

-- what a call leaves of the plain list: for want of memory what was there, else what the plain list leaves
abbrev pub left : {T : Type 0} → Result T Failed → Plain → Plain → Plain
left (Ok x) was then = then
left (Err (Refused f)) was then = then
left (Err NoMemory) was then = was
left (Err Differ) was then = then

-- what holds of a call that both refused, or that was not put to the table
abbrev pub OnRefusal : {T : Type 0} → Result T Failed → Type 0 → Type 0
OnRefusal (Ok x) P = ⊤
OnRefusal (Err (Refused f)) P = P
OnRefusal (Err NoMemory) P = P
OnRefusal (Err Differ) P = ⊤
