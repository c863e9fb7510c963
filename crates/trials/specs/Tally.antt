-- A tally of answers, each a number or a refusal.
use Rattle.std.specs.Prelude.{bit_xor, ℕ, ◌+◌, ◌-◌, ◌*◌, ◌%◌, ◌^◌, min, List, Option, Some, None, ◌/◌, Result, Ok, Err, slice_set, slice_index, alloc_error}
use Rattle.std.specs.declared.alloc.AllocError.{AllocError}
use Rattle.faults.specs.declared.Fault.{Fault}
use Rattle.faults.specs.declared.Refusal.{Refusal}
use Rattle.routes.specs.declared.failure.Failure.{Failure}
use Rattle.routes.specs.declared.failure.Failure.TheVariants.{NoMemory, Refused}
use Rattle.trials.specs.declared.lines.Line.{Line}
use Rattle.faults.specs.Numbers.{number_of}

-- a sum with one more number
abbrev pub summed : ℕ → ℕ → ℕ
summed total n = (total * 31 % 2 ^ 64 + n) % 2 ^ 64

-- a count of 32 bits with one more, or the last
abbrev pub one_more : ℕ → ℕ
one_more n = min (n + 1) (2 ^ 32 - 1)

-- an answer as a number; a refusal by its own
abbrev pub number_said : Result ℕ Refusal → ℕ
number_said (Ok n) = n
number_said (Err r) = number_of r

-- the counts of refusals by number, after an answer
abbrev pub counted : Result ℕ Refusal → List ℕ → List ℕ
counted (Ok n) counts = counts
counted (Err r) counts = slice_set counts (number_of r) (one_more (slice_index counts (number_of r)))

-- a hop, or none, as a number
abbrev pub hop_number : Option ℕ → ℕ
hop_number (Some hop) = 1000 + hop
hop_number None = 200

-- a route, or none, as a number: the halves of its address's number folded into one, and its length and hop added
abbrev pub route_number : Option Line → ℕ
route_number (Some l) = ((bit_xor (l.network.value % 2 ^ 64) (l.network.value / 2 ^ 64) + 7 * l.network.length) % 2 ^ 64 + 13 * l.hop) % 2 ^ 64
route_number None = 300

-- an answer or its fault; want of memory is none of these
abbrev pub settled : {T : Type 0} → Result T Failure → Result (Result T Fault) AllocError
settled (Ok answer) = Ok (Ok answer)
settled (Err (Refused fault)) = Ok (Err fault)
settled (Err NoMemory) = Err alloc_error
