-- What lies beside the fields of the nodes, which no call of the two halves of the interface alters.
use Rattle.std.specs.Prelude.{◌≡◌, ℕ, ◌*◌, ◌%◌, ◌≤◌, Bool, true, false, ◌&&◌, cond, List, length, ◌==◌, nat_lt, nat_le}
use Rattle.std.proofs.Math.ListN.{get_or}
use Rattle.model.specs.Nodes.{marked}
use Rattle.fields.specs.Layout.{size_of}

-- whether a bit of a word of a node is part of a field; the others are spare
abbrev pub is_field : ℕ → ℕ → Bool
is_field word bit =
    cond (word == 0) true
    (cond (nat_lt word 22) (nat_lt bit 54)
    (cond (word == 22) (nat_lt bit 25)
    (cond (word == 23) (nat_le 12 bit && nat_lt bit 60)
    (cond (nat_lt word 35) (nat_lt bit 60)
    (nat_lt bit 48)))))

-- as many words, the same words behind the nodes, and the same spare bits
pub record Beside (xs ys : List ℕ) : Type 0 where
  pub long : length ys ≡ length xs
  pub behind : (k : ℕ) → 36 * size_of xs ≤ k → get_or ys k 0 ≡ get_or xs k 0
  pub spare : (k bit : ℕ) → is_field (k % 36) bit ≡ false → marked (get_or ys k 0) bit ≡ marked (get_or xs k 0) bit
