-- Numbers and rows of bits in bytes, the most significant first.
use Rattle.std.specs.Prelude.{ℕ, zero, suc, ◌+◌, ◌*◌, ◌/◌, ◌%◌, ◌^◌, List, [], ◌∷◌, ◌++◌, length, drop}
use Rattle.bits.specs.Rows.{Bits, number, padded, row}

-- a byte is a number below 256
abbrev pub Bytes : Type 0
Bytes = List ℕ

-- a number in so many bytes
abbrev pub big_endian : ℕ → ℕ → Bytes
big_endian zero n = []
big_endian (suc size) n = n / 256 ^ size % 256 ∷ big_endian size n

-- the number that bytes spell
abbrev pub value : Bytes → ℕ
value [] = 0
value (b ∷ bs) = b * 256 ^ length bs + value bs

-- the fewest bytes that hold so many bits
abbrev pub byte_count : ℕ → ℕ
byte_count len = (len + 7) / 8

-- a row of bits in so many bytes, zeros behind it
abbrev pub pack : ℕ → Bits → Bytes
pack zero bs = []
pack (suc count) bs = number (padded 8 bs) ∷ pack count (drop 8 bs)

-- the bits of bytes
abbrev pub unpack : Bytes → Bits
unpack [] = []
unpack (b ∷ bs) = row 8 b ++ unpack bs

-- a prefix: its length in one byte, then its bits in the fewest bytes that hold them, zeros behind them
unfoldable pub prefix_bytes : Bits → Bytes
prefix_bytes p = length p ∷ pack (byte_count (length p)) p

-- an output with bytes put at its front, and those behind them left
abbrev pub in_front : Bytes → Bytes → Bytes
in_front bytes output = bytes ++ drop (length bytes) output
