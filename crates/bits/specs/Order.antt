-- Which of two rows of bits comes first, and whether one begins the other.
use Rattle.std.specs.Prelude.{◌≡◌, ℕ, zero, suc, ◌≤◌, Bool, true, false, [], ◌∷◌, length, drop}
use Rattle.std.specs.declared.cmp.Ordering.TheVariants.{Less, Equal, Greater}
use Rattle.std.specs.declared.cmp.Ordering.{Ordering}
use Rattle.std.specs.Ordering.{ordering_then}
use Rattle.bits.specs.Rows.{Bits, clear}

-- by the first bit that differs, and a row before those that it begins
unfoldable pub order : Bits → Bits → Ordering
order [] [] = Equal
order [] (y ∷ ys) = Less
order (x ∷ xs) [] = Greater
order (false ∷ xs) (false ∷ ys) = order xs ys
order (false ∷ xs) (true ∷ ys) = Less
order (true ∷ xs) (false ∷ ys) = Greater
order (true ∷ xs) (true ∷ ys) = order xs ys

-- the first row begins the second
unfoldable pub begins : Bits → Bits → Bool
begins [] ys = true
begins (x ∷ xs) [] = false
begins (false ∷ xs) (false ∷ ys) = begins xs ys
begins (false ∷ xs) (true ∷ ys) = false
begins (true ∷ xs) (false ∷ ys) = false
begins (true ∷ xs) (true ∷ ys) = begins xs ys

abbrev pub is_less : Ordering → Bool
is_less Less = true
is_less Equal = false
is_less Greater = false

abbrev pub is_equal : Ordering → Bool
is_equal Less = false
is_equal Equal = true
is_equal Greater = false

-- the first row comes before the second
abbrev pub before : Bits → Bits → Bool
before p q = is_less (order p q)

-- the two rows are the same
abbrev pub same : Bits → Bits → Bool
same p q = is_equal (order p q)

-- the order of a pair taken the other way round
abbrev pub flipped : Ordering → Ordering
flipped Less = Greater
flipped Equal = Equal
flipped Greater = Less

-- which of two numbers is smaller
unfoldable pub sizes : ℕ → ℕ → Ordering
sizes zero zero = Equal
sizes zero (suc m) = Less
sizes (suc l) zero = Greater
sizes (suc l) (suc m) = sizes l m

-- two prefixes, each an address and a length, by address and then shorter first
abbrev pub by_address : Bits → ℕ → Bits → ℕ → Ordering
by_address a l b m = ordering_then (order a b) (sizes l m)

-- an address and a length are a sound prefix: the length is within the address, and every bit from the length on is 0
abbrev pub Sound : Bits → ℕ → Type 0
Sound bs len = (len ≤ length bs) × (clear (drop len bs) ≡ true)
