-- Decimal numbers at the front of a text.
use Rattle.std.specs.Prelude.{◌≡◌, ℕ, ◌+◌, ◌-◌, ◌*◌, ◌<◌, ◌≤◌, List, length, take, decimal, slice_index}

-- the byte is a digit
abbrev pub Digit : ℕ → Type 0
Digit c = (48 ≤ c) × (c ≤ 57)

-- the byte is a digit that makes of a number, which is not 0, a longer one within the limit
abbrev pub Extends : ℕ → ℕ → ℕ → Type 0
Extends limit n c = (0 < n) × Digit c × (n * 10 + (c - 48) ≤ limit)

-- the longest number within the limit that begins the text, and how many bytes it takes
pub record Longest (limit : ℕ) (text : List ℕ) (n end : ℕ) : Type 0 where
  pub small : n ≤ limit
  pub some : 0 < end
  pub within : end ≤ length text
  pub is : take end text ≡ decimal n
  pub stops : end < length text → Extends limit n (slice_index text end) → ⊥
