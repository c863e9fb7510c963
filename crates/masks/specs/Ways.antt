-- The positions on the way to a position of a node: the position itself, half of it, half of that, and so on to 1. A table of masks marks them.
use Rattle.std.specs.Prelude.{◌≡◌, ℕ, ◌-◌, ◌*◌, ◌/◌, ◌^◌, ◌<◌, ◌≤◌, true, false, List, None, Some, Option, ◌↔◌, IsTrue, slice_index}
use Rattle.std.specs.Option.{option_map}
use Rattle.model.specs.Nodes.{marked, deepest}

-- k is i with so many of its last bits dropped, and not all of them
abbrev pub OnTheWay : ℕ → ℕ → Type 0
OnTheWay k i = (1 ≤ k) × ((dropped : ℕ) × (k ≡ i / 2 ^ dropped))

-- entry i of the table has exactly the bits of the positions on the way to i
abbrev pub MarksTheWays : List ℕ → Type 0
MarksTheWays table = (i k : ℕ) → i < 64 → k < 64 → IsTrue (marked (slice_index table i) k) ↔ OnTheWay k i

-- no position on the way to i is marked
abbrev pub NoneMarked : ℕ → ℕ → Type 0
NoneMarked bitmap i = (k : ℕ) → OnTheWay k i → marked bitmap k ≡ false

-- p is the highest position on the way to i that is marked
pub record Highest (bitmap i p : ℕ) : Type 0 where
  pub on_the_way : OnTheWay p i
  pub is_marked : marked bitmap p ≡ true
  pub none_above : (k : ℕ) → OnTheWay k i → p < k → marked bitmap k ≡ false

-- the position that the model's longest match stands for, at a position i of s bits: the first bit of i, and as many more as match
abbrev pub deepest_position : ℕ → ℕ → ℕ → Option ℕ
deepest_position bitmap s i = option_map (λ more. i / 2 ^ (s - 1 - more)) (deepest bitmap s i)

-- the highest bit of a number; 0 has none
abbrev pub HighestBit : ℕ → Option ℕ → Type 0
HighestBit v None = v ≡ 0
HighestBit v (Some p) = (2 ^ p ≤ v) × (v < 2 * 2 ^ p)
