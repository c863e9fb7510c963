-- What the text of an IPv6 address stands for: words between colons, and two colons in a row for the zero groups that are left out.
use Rattle.std.specs.Prelude.{◌≡◌, ℕ, ◌+◌, ◌-◌, ◌<◌, Bool, true, cond, ◌&&◌, List, [], ◌∷◌, ◌++◌, length, drop, replicate, Some, None, Option, ◌==◌, nat_le, nat_lt, slice_index}
use Rattle.std.specs.List.{slice_split}
use Rattle.std.specs.Char.{digit_value}
use Rattle.std.specs.Str.Parse.{digits_value}

-- every byte is a hexadecimal digit, of either case
unfoldable pub hexadecimal : List ℕ → Bool
hexadecimal [] = true
hexadecimal (c ∷ cs) = nat_lt (digit_value c) 16 && hexadecimal cs

-- the number of a word of one to four hexadecimal digits
unfoldable pub word : List ℕ → Option ℕ
word w = cond (nat_lt 0 (length w) && (nat_le (length w) 4 && hexadecimal w)) (Some (digits_value 16 w)) None

-- the words of a text between its colons; they may be empty
unfoldable pub words : List ℕ → List (List ℕ)
words t = slice_split (λ c. c == 58) t

-- a number before others, where all are there
abbrev pub before : Option ℕ → Option (List ℕ) → Option (List ℕ)
before None rest = None
before (Some n) None = None
before (Some n) (Some ns) = Some (n ∷ ns)

-- the numbers of words, if each has one
unfoldable pub numbers : List (List ℕ) → Option (List ℕ)
numbers [] = Some []
numbers (w ∷ ws) = before (word w) (numbers ws)

-- the groups of a text with no two colons in a row; an empty text has none
unfoldable pub side : List ℕ → Option (List ℕ)
side [] = Some []
side (c ∷ cs) = numbers (words (c ∷ cs))

-- a byte put before the first part
abbrev pub further : ℕ → Option (List ℕ × List ℕ) → Option (List ℕ × List ℕ)
further c None = None
further c (Some p) = Some (c ∷ p.0, p.1)

-- what stands before and behind the first two colons in a row, if there are two
unfoldable pub parts : List ℕ → Option (List ℕ × List ℕ)
parts [] = None
parts (c ∷ cs) = cond (c == 58 && slice_index cs 0 == 58) (Some ([], drop 1 cs)) (further c (parts cs))

-- groups that are all written, if there are eight
abbrev pub whole : Option (List ℕ) → Option (List ℕ)
whole None = None
whole (Some gs) = cond (length gs == 8) (Some gs) None

-- eight groups, with zeros between those written before and behind the two colons, if there is place for a zero
abbrev pub filled : Option (List ℕ) → Option (List ℕ) → Option (List ℕ)
filled None right = None
filled (Some gs) None = None
filled (Some gs) (Some hs) = cond (nat_lt (length gs + length hs) 8) (Some (gs ++ (replicate (8 - (length gs + length hs)) 0 ++ hs))) None

-- the groups of a text, by what stands before and behind its two colons
abbrev pub by_parts : List ℕ → Option (List ℕ × List ℕ) → Option (List ℕ)
by_parts t None = whole (side t)
by_parts t (Some p) = filled (side p.0) (side p.1)

-- the eight groups that a text stands for, if it stands for any
unfoldable pub read_colons : List ℕ → Option (List ℕ)
read_colons t = by_parts t (parts t)

-- not read as groups, or as more than there is place for
abbrev pub Beyond : ℕ → Option (List ℕ) → Type 0
Beyond most None = Unit {0}
Beyond most (Some gs) = most < length gs

-- two colons in a row begin at this place
abbrev pub TwoColons : List ℕ → ℕ → Type 0
TwoColons t k = (slice_index t k ≡ 58) × (slice_index t (k + 1) ≡ 58)
