-- Rows of bits, the most significant first: what an address is, and how groups of its bits are read and written.
use Rattle.std.specs.Prelude.{ℕ, zero, suc, ◌+◌, ◌-◌, ◌*◌, ◌/◌, ◌%◌, ◌^◌, min, Bool, true, false, List, [], ◌∷◌, ◌++◌, length, take, drop, replicate, ◌==◌}

abbrev pub Bits : Type 0
Bits = List Bool

abbrev pub bit : Bool → ℕ
bit true = 1
bit false = 0

-- the number that a row spells
unfoldable pub number : Bits → ℕ
number [] = 0
number (b ∷ bs) = bit b * 2 ^ length bs + number bs

-- the row of the n low bits of v
unfoldable pub row : ℕ → ℕ → Bits
row zero v = []
row (suc n) v = (v / 2 ^ n % 2 == 1) ∷ row n v

-- the first bits of a row, so many; behind the row stand zeros
abbrev pub padded : ℕ → Bits → Bits
padded size bs = take size (bs ++ replicate size false)

-- the number of the bits from a place, at most 6; behind the row stand zeros
unfoldable pub read_group : Bits → ℕ → ℕ → ℕ
read_group bs place len = number (take (min len 6) (drop place bs ++ replicate (min len 6) false))

-- the row with the low bits of v written from a place, at most 6; what passes the row's end is dropped
unfoldable pub write_group : Bits → ℕ → ℕ → ℕ → Bits
write_group bs place len v = take (length bs) (take place bs ++ (row (min len 6) v ++ drop (place + min len 6) bs))

-- every bit is 0
unfoldable pub clear : Bits → Bool
clear [] = true
clear (true ∷ bs) = false
clear (false ∷ bs) = clear bs

-- a row of w bits, the number v, shifted up in a word of D bits so that the bits from place p on stand at its top
abbrev pub top : ℕ → ℕ → ℕ → ℕ → ℕ
top D w p v = (v * 2 ^ (D - (w - p))) % 2 ^ D
