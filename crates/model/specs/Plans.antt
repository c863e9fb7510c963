-- A plan: how many bits each level of the tree takes. The plans for addresses of W bits are 1 to 32 strides, each 1 to 6, of the sum W + 1.
use Rattle.std.specs.Prelude.{ℕ, ◌+◌, Bool, true, false, ◌&&◌, List, [], ◌∷◌, length, take, ◌==◌, nat_le}

abbrev pub sum : List ℕ → ℕ
sum [] = 0
sum (s ∷ ss) = s + sum ss

-- each stride is 1 to 6
abbrev pub in_range : List ℕ → Bool
in_range [] = true
in_range (s ∷ ss) = nat_le 1 s && nat_le s 6 && in_range ss

-- the strides are a plan for addresses of W bits
unfoldable pub plan_ok : ℕ → List ℕ → Bool
plan_ok W strides = nat_le 1 (length strides) && nat_le (length strides) 32 && in_range strides && sum strides == W + 1

-- the offset of the k-th stride, counted from 0: the sum of the strides before it
abbrev pub offset : List ℕ → ℕ → ℕ
offset plan k = sum (take k plan)

-- the offsets of all strides, in their order
abbrev pub offsets_from : ℕ → List ℕ → List ℕ
offsets_from o [] = []
offsets_from o (s ∷ ss) = o ∷ offsets_from (o + s) ss

abbrev pub offsets : List ℕ → List ℕ
offsets plan = offsets_from 0 plan

-- the two lists of strides are the same
abbrev pub same_strides : List ℕ → List ℕ → Bool
same_strides [] [] = true
same_strides [] (t ∷ ts) = false
same_strides (s ∷ ss) [] = false
same_strides (s ∷ ss) (t ∷ ts) = s == t && same_strides ss ts
