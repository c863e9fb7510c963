-- The prefix of the definitions that a prefix in a message stands for, and a reader's refusals.
use Rattle.std.specs.Prelude.{ℕ}
use Rattle.model.specs.Bytes.{unpack}
use Rattle.model.specs.Sheets.{Read}
use Rattle.faults.specs.declared.Fault.{Fault}
use Rattle.faults.specs.declared.Layer.TheVariants.{Reader as ByReader}
use Rattle.faults.specs.declared.Refusal.{Refusal}
use Rattle.messages.specs.declared.prefix.PrefixBytes.{PrefixBytes}

-- its place, its length and the bits of its bytes
abbrev pub as_read : PrefixBytes → Read
as_read p = record { place = p.place; len = p.length; row = unpack p.bytes.now }

-- a refusal by a reader, for the field at a place
abbrev pub of_reader : Refusal → ℕ → Fault
of_reader refusal place = record { refusal = refusal; layer = ByReader; place = place }
