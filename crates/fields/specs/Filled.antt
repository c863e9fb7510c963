-- Words filled with equal nodes.
use Rattle.std.specs.Prelude.{◌≡◌, ℕ, ◌*◌, ◌<◌, ◌≤◌, List, length}
use Rattle.std.proofs.Math.ListN.{get_or}
use Rattle.fields.specs.Layout.{word_at}

-- the first so many nodes have the words of one node, and all words behind them stand as they were
pub record Filled (many : ℕ) (node xs ys : List ℕ) : Type 0 where
  pub long : length ys ≡ length xs
  pub each : (n w : ℕ) → n < many → w < 36 → word_at ys n w ≡ get_or node w 0
  pub behind : (k : ℕ) → 36 * many ≤ k → get_or ys k 0 ≡ get_or xs k 0
