-- Where reading a text stops.
use Rattle.std.specs.Prelude.{◌≡◌, ℕ, ◌+◌, ◌<◌, ◌≤◌, List, ◌++◌, length, take, ◌≢◌}

-- the text begins one of the texts
abbrev pub Begins : (ℕ → List ℕ) → List ℕ → Type 0
Begins texts t = (v : ℕ) × (s : List ℕ) × (texts v ≡ t ++ s)

-- reading stops at this place: what stands before it begins one of the texts, with the byte at it this is no longer so, and the whole is none of them
pub record Stuck (texts : ℕ → List ℕ) (text : List ℕ) (place : ℕ) : Type 0 where
  pub within : place ≤ length text
  pub begun : Begins texts (take place text)
  pub stops : place < length text → Begins texts (take (place + 1) text) → ⊥
  pub none : (v : ℕ) → text ≢ texts v
