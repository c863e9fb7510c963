-- Words and blanks in a line of bytes. A blank is a space or a control byte.
use Rattle.std.specs.Prelude.{◌≡◌, ℕ, ◌<◌, ◌≤◌, Bool, true, false, List, length, nat_le, slice_index, slice_range}

abbrev pub is_blank : ℕ → Bool
is_blank byte = nat_le byte 32

-- the bytes from one place to another are blanks
abbrev pub Blank : List ℕ → ℕ → ℕ → Type 0
Blank line from to = (k : ℕ) → from ≤ k → k < to → is_blank (slice_index line k) ≡ true

-- the first word from a place on: blanks before it, no blank in it, and a blank or the end of the line behind it
pub record WordAt (line : List ℕ) (from place end : ℕ) (bytes : List ℕ) : Type 0 where
  pub order : (from ≤ place) × (place < end) × (end ≤ length line)
  pub before : Blank line from place
  pub inside : (k : ℕ) → place ≤ k → k < end → is_blank (slice_index line k) ≡ false
  pub behind : end < length line → is_blank (slice_index line end) ≡ true
  pub is : bytes ≡ slice_range line place end
