-- The text of an IPv6 address: eight groups in hexadecimal between colons, the longest run of zero groups shortened to two colons.
use Rattle.std.specs.Prelude.{ℕ, zero, suc, ◌+◌, ◌*◌, ◌/◌, ◌%◌, ◌^◌, max, false, cond, List, [], ◌∷◌, ◌++◌, take, drop, ◌==◌, nat_le}
use Rattle.std.specs.List.{flat_map}
use Rattle.std.specs.Fmt.{digits}

-- the n low groups of 16 bits of a number, the most significant first
unfoldable pub low_groups : ℕ → ℕ → List ℕ
low_groups zero v = []
low_groups (suc n) v = v / 2 ^ (16 * n) % 2 ^ 16 ∷ low_groups n v

-- the eight groups of an address in two halves of 64 bits
unfoldable pub groups : ℕ → ℕ → List ℕ
groups high low = low_groups 8 (high * 2 ^ 64 + low)

-- a number in lower-case hexadecimal, without leading zeros
unfoldable pub hex : ℕ → List ℕ
hex n = digits 16 false n

-- a group with the colon before it
abbrev pub behind : ℕ → List ℕ
behind g = 58 ∷ hex g

-- groups in hexadecimal, joined by colons
unfoldable pub written : List ℕ → List ℕ
written [] = []
written (g ∷ gs) = hex g ++ flat_map behind gs

-- how many zero groups stand at the front
unfoldable pub zeros : List ℕ → ℕ
zeros [] = 0
zeros (g ∷ gs) = cond (g == 0) (zeros gs + 1) 0

-- how many groups the longest run of zero groups has
unfoldable pub longest : List ℕ → ℕ
longest [] = 0
longest (g ∷ gs) = max (zeros (g ∷ gs)) (longest gs)

-- where the first run of n zero groups begins
unfoldable pub first_run : ℕ → List ℕ → ℕ
first_run n [] = 0
first_run n (g ∷ gs) = cond (zeros (g ∷ gs) == n) 0 (first_run n gs + 1)

-- what stands before a run of n groups, two colons, and what stands behind the run
abbrev pub shortened : ℕ → ℕ → List ℕ → List ℕ
shortened place n gs = written (take place gs) ++ (58 ∷ 58 ∷ written (drop (place + n) gs))

-- the canonical text: the first of the longest runs of zero groups is shortened, if it has two groups or more
unfoldable pub colons : List ℕ → List ℕ
colons gs = cond (nat_le 2 (longest gs)) (shortened (first_run (longest gs) gs) (longest gs) gs) (written gs)
