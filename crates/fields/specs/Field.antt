-- A field of a word: so many bits of it, from a bit on. Bit 0 is the lowest.
use Rattle.std.specs.Prelude.{ℕ, ◌+◌, ◌*◌, ◌/◌, ◌%◌, ◌^◌}

-- the number in the field
unfoldable pub field : ℕ → ℕ → ℕ → ℕ
field width shift word = word / 2 ^ shift % 2 ^ width

-- the word with another number there, between what lies above it and what lies below
unfoldable pub with_field : ℕ → ℕ → ℕ → ℕ → ℕ
with_field width shift word value = (word / 2 ^ shift / 2 ^ width * 2 ^ width + value) * 2 ^ shift + word % 2 ^ shift
