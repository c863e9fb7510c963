-- What stands in the output for each address.
use Rattle.std.specs.Prelude.{◌≡◌, ℕ, ◌<◌, ◌≤◌, ◌+◌, List, length, Some, None, Option, slice_index}
use Rattle.bits.specs.Rows.{row}
use Rattle.model.specs.Nodes.{Nodes, Walk}
use Rattle.model.specs.Outcomes.{Outcome, granted, refused}
use Rattle.model.specs.Routes.{Route}
use Rattle.walks.specs.Walks.{walked}

-- of the longest match: 1 more than its hop, or 0 for none
abbrev pub of_match : Option Route → ℕ
of_match None = 0
of_match (Some r) = r.hop + 1

-- of a walk; where it comes to a child that is no node, the largest number of 32 bits, which no hop gives
abbrev pub of_walk : Outcome Walk → ℕ
of_walk (granted w) = of_match w.found
of_walk (refused number layer place) = 4294967295

-- of an IPv4 address
abbrev pub found_for : Nodes → List ℕ → ℕ → ℕ
found_for nodes plan address = of_walk (walked nodes plan (row 32 address))

-- the first n entries of an output are those for the first n addresses, and the others are as they were
pub record Answers (nodes : Nodes) (plan addresses before : List ℕ) (n : ℕ) (after : List ℕ) : Type 0 where
  pub size : length after ≡ length before
  pub entries : (k : ℕ) → k < n → slice_index after k ≡ found_for nodes plan (slice_index addresses k)
  pub behind : (k : ℕ) → n ≤ k → slice_index after k ≡ slice_index before k
