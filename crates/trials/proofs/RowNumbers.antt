-- The number that a row spells, where the row is that of a number that it holds.
use Rattle.std.proofs.Common.{◌≡◌, ℕ, ◌^◌, ◌<◌, ◌∙◌, mod-eq_of_lt}
use Rattle.bits.specs.Rows.{row, number}
use Rattle.bits.proofs.Rows.{number_row}

pub number_of_row : (w v : ℕ) → v < 2 ^ w → number (row w v) ≡ v
number_of_row w v below = number_row w v ∙ mod-eq_of_lt below
