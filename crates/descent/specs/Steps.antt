-- What a lookup's walk has found on its way: its last match.
use Rattle.std.specs.Prelude.{◌≡◌, ℕ, ◌+◌, ◌^◌, ◌<◌, ◌≤◌, true, false, List, length, take, Some, None, Option, Ok, Err, Result}
use Rattle.bits.specs.Rows.{Bits, read_group}
use Rattle.faults.specs.declared.Fault.{Fault}
use Rattle.faults.specs.declared.Refusal.TheVariants.{Place}
use Rattle.faults.specs.Numbers.{of_memory}
use Rattle.masks.specs.Ways.{HighestBit}
use Rattle.model.specs.Nodes.{Nodes, walk}
use Rattle.model.specs.Routes.{Route, route}
use Rattle.nodes.specs.Fields.{is_node}
use Rattle.walks.specs.Walks.{visits_nodes}
use Rattle.descent.specs.declared.walk.Match.{Match}
use Rattle.descent.specs.declared.walk.Walked.{Walked}

-- a match stands for a route: the first bits of the address, those before the node and so many more within it, and the hop that is held there
pub record Stands (nodes : Nodes) (a : Bits) (m : Match) (r : Route) : Type 0 where
  pub there : is_node nodes m.node ≡ true
  pub more : ℕ
  pub few : more < 6
  pub within : m.offset + more ≤ length a
  pub position : HighestBit m.marks (Some (2 ^ more + read_group a m.offset more))
  pub is : r ≡ route (take (m.offset + more) a) (nodes.hop m.node (2 ^ more + read_group a m.offset more))

-- a last match stands for the route that was found last
abbrev pub Last : Nodes → Bits → Option Match → Option Route → Type 0
Last nodes a None None = Unit {0}
Last nodes a None (Some r) = ⊥
Last nodes a (Some m) None = ⊥
Last nodes a (Some m) (Some r) = Stands nodes a m r

pub record Ends (nodes : Nodes) (plan : List ℕ) (a : Bits) (w : Walked) : Type 0 where
  pub there : visits_nodes nodes plan a 0 0 ≡ true
  pub visits : (walk nodes plan a).visits ≡ w.visits
  pub last : Last nodes a w.last (walk nodes plan a).found

-- the walk ends, or a node that it would visit is none
abbrev pub Walks : Nodes → List ℕ → Bits → Result Walked Fault → Type 0
Walks nodes plan a (Ok w) = Ends nodes plan a w
Walks nodes plan a (Err f) = (visits_nodes nodes plan a 0 0 ≡ false) × (f ≡ of_memory Place)
