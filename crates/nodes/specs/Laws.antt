-- What every node memory owes beside what its calls answer.
use Rattle.std.specs.Prelude.{◌≡◌, ℕ, ◌≤◌, false}
use Rattle.model.specs.Nodes.{Nodes}
use Rattle.nodes.specs.Fields.{most_nodes, is_child, is_hop, is_node}

-- few nodes, and 0 wherever there is none, no child or no hop
pub record Within (m : Nodes) : Type 0 where
  pub few : m.size ≤ most_nodes
  pub bitmap : (n : ℕ) → is_node m n ≡ false → m.bitmap n ≡ 0
  pub count : (n : ℕ) → is_node m n ≡ false → m.count n ≡ 0
  pub child : (n i : ℕ) → is_child m n i ≡ false → m.child n i ≡ 0
  pub hop : (n i : ℕ) → is_hop m n i ≡ false → m.hop n i ≡ 0

-- `still` is what every reading keeps, `always` what every call keeps, of a memory that holds `nodes`. Each goes on from call to call; a
-- reading alters neither the number of nodes nor a field, and no call alters the number of nodes.
pub record Laws {S : Type 0} (nodes : S → Nodes) (still always : S → S → Type 0) : Type 0 where
  pub within : (x : S) → Within (nodes x)
  pub still_same : (x : S) → still x x
  pub still_then : (x y z : S) → still x y → still y z → still x z
  pub still_nodes : (x y : S) → still x y → nodes y ≡ nodes x
  pub still_always : (x y : S) → still x y → always x y
  pub always_same : (x : S) → always x x
  pub always_then : (x y z : S) → always x y → always y z → always x z
  pub always_size : (x y : S) → always x y → (nodes y).size ≡ (nodes x).size
