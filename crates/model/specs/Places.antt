-- Where a prefix lies in the tree: at one stride, in the node that the bits before that stride lead to, at a position within it.
use Rattle.std.specs.Prelude.{ℕ, suc, ◌+◌, ◌-◌, ◌^◌, ◌<◌, ◌≤◌, cond, List, [], ◌∷◌, length, take, drop, nat_lt, slice_index}
use Rattle.bits.specs.Rows.{Bits, number}
use Rattle.model.specs.Plans.{offset}

-- a prefix of so many bits lies at the k-th stride: they fill the strides before it, and not it
abbrev pub Lies : List ℕ → ℕ → ℕ → Type 0
Lies plan k len = (k < length plan) × (offset plan k ≤ len) × (len < offset plan k + slice_index plan k)

-- the stride at which a prefix of so many bits lies
abbrev pub level : List ℕ → ℕ → ℕ
level [] len = 0
level (s ∷ ss) len = cond (nat_lt len s) 0 (suc (level ss (len - s)))

-- its path, the bits that lead to its node: those before its stride
abbrev pub path_to : List ℕ → Bits → Bits
path_to plan p = take (offset plan (level plan (length p))) p

-- the position of the r bits that are left within a node: 2 ^ r plus the number that they form
abbrev pub position : Bits → ℕ
position bs = 2 ^ length bs + number bs

abbrev pub position_of : List ℕ → Bits → ℕ
position_of plan p = position (drop (offset plan (level plan (length p))) p)

-- the child indexes on the way to its node, from the root down: the number of each earlier stride's bits
abbrev pub indexes : List ℕ → Bits → List ℕ
indexes [] p = []
indexes (s ∷ ss) p = cond (nat_lt (length p) s) [] (number (take s p) ∷ indexes ss (drop s p))
