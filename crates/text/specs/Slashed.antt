-- The text of a prefix: an address, a slash and a length.
use Rattle.std.specs.Prelude.{◌≡◌, ℕ, ◌+◌, ◌%◌, ◌<◌, ◌≤◌, List, ◌∷◌, ◌++◌, length, decimal, ◌≢◌, slice_index}
use Rattle.text.specs.Stuck.{Stuck}

-- the texts of the lengths that are read, 0 to 999
abbrev pub length_text : ℕ → List ℕ
length_text n = decimal (n % 1000)

-- no slash stands in the text
abbrev pub Unslashed : List ℕ → Type 0
Unslashed t = (k : ℕ) → k < length t → slice_index t k ≢ 47

-- the last slash of the text stands at this place
pub record LastSlash (text : List ℕ) (place : ℕ) : Type 0 where
  pub within : place < length text
  pub is : slice_index text place ≡ 47
  pub last : (k : ℕ) → place < k → k < length text → slice_index text k ≢ 47

-- the text is that of an address, a slash and a length below 1000
pub record SlashReads {X : Type 0} (reads : List ℕ → X → Type 0) (text : List ℕ) (address : X) (len : ℕ) : Type 0 where
  pub front : List ℕ
  pub is : text ≡ front ++ (47 ∷ decimal len)
  pub stands : reads front address
  pub small : len < 1000

-- where reading the text of a prefix stops: at the end of an address without a slash, within what stands before the last slash where that is no address, and else where reading the length stops
pub record SlashStuck {X : Type 0} (reads : List ℕ → X → Type 0) (text : List ℕ) (place : ℕ) : Type 0 where
  pub unslashed : (a : X) → Unslashed text → reads text a → place ≡ length text
  pub before : (t s : List ℕ) → text ≡ t ++ (47 ∷ s) → Unslashed s → ((a : X) → reads t a → ⊥) → place ≤ length t
  pub behind : (t s : List ℕ) (a : X) → text ≡ t ++ (47 ∷ s) → Unslashed s → reads t a → (p : ℕ) × (place ≡ length t + 1 + p) × Stuck length_text s p
