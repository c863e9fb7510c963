-- Reading a message from front to back. A reader is given the message and the place of the next byte, and answers a value and the place
-- behind it, or a refusal; `do` puts readers one after the other, and the first refusal ends the reading.
use Rattle.std.specs.Prelude.{ℕ, zero, suc, ◌+◌, Bool, List, [], ◌∷◌, length, take, drop, Some, Option, nat_le}
use Rattle.faults.specs.declared.Layer.{Layer}
use Rattle.faults.specs.declared.Layer.TheVariants.{Reader as ByReader}
use Rattle.faults.specs.Numbers.{cut_short}
use Rattle.model.specs.Bytes.{Bytes, value}
use Rattle.model.specs.Outcomes.{Outcome, granted, and_then, provided}

abbrev pub Reader : Type 0 → Type 0
Reader A = Bytes → ℕ → Outcome (A × ℕ)

infixl 20 ◌>>=◌
infixl 20 ◌>>◌
abbrev pub ◌>>=◌ : {A B : Type 0} → Reader A → (A → Reader B) → Reader B
◌>>=◌ first rest message at = and_then (first message at) (λ got. rest got.0 message got.1)

abbrev pub ◌>>◌ : {A B : Type 0} → Reader A → Reader B → Reader B
first >> rest = first >>= λ _. rest

-- a value, with nothing read
abbrev pub give : {A : Type 0} → A → Reader A
give a message at = granted (a, at)

-- the place of the next byte
abbrev pub here : Reader ℕ
here message at = granted (at, at)

-- a test of what was read
abbrev pub must : Bool → ℕ → Layer → ℕ → Reader (Unit {0})
must test number layer place message at = provided test number layer place (granted (tt, at))

-- so many bytes; a message that is too short is cut at its end
abbrev pub bytes : ℕ → Reader Bytes
bytes size message at =
    provided (nat_le (at + size) (length message)) cut_short ByReader (length message)
    (granted (take size (drop at message), at + size))

-- the number in so many bytes
abbrev pub number_in : ℕ → Reader ℕ
number_in size = do
  digits ← bytes size
  give (value digits)

-- the message ends here; if not, it is cut at the first byte left over
abbrev pub end : Reader (Unit {0})
end message at = provided (nat_le (length message) at) cut_short ByReader at (granted (tt, at))

-- so many values, each read with regard to the one before it
abbrev pub series : {A : Type 0} → (Option A → Reader A) → Option A → ℕ → Reader (List A)
series next last zero = give []
series next last (suc count) = do
  a ← next last
  more ← series next (Some a) count
  give (a ∷ more)
