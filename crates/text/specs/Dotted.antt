-- The text of an IPv4 address.
use Rattle.std.specs.Prelude.{ℕ, zero, suc, ◌*◌, ◌/◌, ◌%◌, ◌^◌, List, ◌∷◌, ◌++◌, decimal}

-- four bytes in decimal, the highest first, with a dot between each two
abbrev pub dotted : ℕ → List ℕ
dotted v = decimal (v / 2 ^ 24 % 256) ++ (46 ∷ (decimal (v / 2 ^ 16 % 256) ++ (46 ∷ (decimal (v / 2 ^ 8 % 256) ++ (46 ∷ decimal (v % 256))))))

-- the low bytes of a number in the same way, so many that there are k dots between them
unfoldable pub with_dots : ℕ → ℕ → List ℕ
with_dots zero v = decimal (v % 256)
with_dots (suc k) v = decimal (v / 2 ^ (8 * suc k) % 256) ++ (46 ∷ with_dots k v)
