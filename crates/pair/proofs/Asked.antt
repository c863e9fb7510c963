-- A call that both engines were asked leaves what the plain list leaves.
use Rattle.std.proofs.Common.{◌≡◌, ◌≢◌, Ok, Err, Result, IfErr, refl}
use Rattle.std.specs.Prelude.{IsErr}
use Rattle.faults.specs.declared.Fault.{Fault}
use Rattle.model.specs.Calls.{Plain}
use Rattle.pair.specs.Told.{OnRefusal, left}
use Rattle.pair.specs.declared.failed.Failed.{Failed}
use Rattle.pair.specs.declared.failed.Failed.TheVariants.{Refused, NoMemory, Differ}

pub left_then : {T : Type 0} (r : Result T Failed) (was then : Plain) → r ≢ Err NoMemory → left r was then ≡ then
left_then (Ok x) was then h = refl
left_then (Err (Refused f)) was then h = refl
left_then (Err NoMemory) was then h = absurd (h refl)
left_then (Err Differ) was then h = refl

-- and one that both refused keeps what the table's refusal keeps
pub refusal_keeps : {T U : Type 0} (P : Type 0) (r : Result T Failed) (beside : Result U Fault) → OnRefusal r (IsErr beside) → IfErr beside (λ _. P) → OnRefusal r P
refusal_keeps P (Ok x) beside h k = tt
refusal_keeps P (Err (Refused f)) (Ok y) h k = cc
refusal_keeps P (Err (Refused f)) (Err g) h k = k
refusal_keeps P (Err NoMemory) (Ok y) h k = cc
refusal_keeps P (Err NoMemory) (Err g) h k = k
refusal_keeps P (Err Differ) beside h k = tt
