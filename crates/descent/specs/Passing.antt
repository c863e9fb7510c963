-- What the steps of a trail come to: the nodes that are passed, and the hop in the last of them.
use Rattle.std.specs.Prelude.{◌≡◌, ℕ, ◌+◌, ◌≤◌, Bool, true, false, ◌&&◌, ◌||◌, List, [], ◌∷◌, length, drop, Some, None, Option, Ok, Err, Result, ◌==◌}
use Rattle.faults.specs.declared.Fault.{Fault}
use Rattle.faults.specs.declared.Refusal.TheVariants.{Place}
use Rattle.faults.specs.Numbers.{of_memory}
use Rattle.bits.specs.Rows.{Bits}
use Rattle.model.specs.Nodes.{Nodes, descend, hop_at, hop_in_node}
use Rattle.model.specs.Places.{position, position_of}
use Rattle.nodes.specs.Fields.{is_child, is_node}
use Rattle.walks.specs.Trails.{passed}

-- so many bits of a prefix lead to its node; the others, at most 5, give its position there
pub record LiesBehind (plan : List ℕ) (p : Bits) (o : ℕ) : Type 0 where
  pub reaches : o ≤ length p
  pub few : length p ≤ o + 5
  pub position : position_of plan p ≡ position (drop o p)

-- each child on the way can be read
abbrev pub readable : Nodes → ℕ → List ℕ → Bool
readable nodes n [] = true
readable nodes n (i ∷ is) =
    let c = nodes.child n i in
    let below = readable nodes c is in
    is_child nodes n i && (c == 0 || below)

-- the nodes that a way leads through
abbrev pub Passes : {T : Type 0} → Nodes → List ℕ → List ℕ → Result T Fault → Type 0
Passes nodes way through (Ok _) = (readable nodes 0 way ≡ true) × (through ≡ passed nodes 0 way)
Passes nodes way through (Err f) = (readable nodes 0 way ≡ false) × (f ≡ of_memory Place)

-- the node that a way leads to, if there is one, can be read
abbrev pub end_there : Nodes → Option ℕ → Bool
end_there nodes None = true
end_there nodes (Some n) = is_node nodes n

-- the hop at a position of a node
abbrev pub HasHop : Nodes → ℕ → ℕ → Result (Option ℕ) Fault → Type 0
HasHop nodes n i (Ok hop) = (is_node nodes n ≡ true) × (hop ≡ hop_at nodes n i)
HasHop nodes n i (Err f) = (is_node nodes n ≡ false) × (f ≡ of_memory Place)

-- the hop at a position of the node that a way leads to
abbrev pub HopThere : Nodes → List ℕ → ℕ → Result (Option ℕ) Fault → Type 0
HopThere nodes way i (Ok hop) = (end_there nodes (descend nodes 0 way) ≡ true) × (hop ≡ hop_in_node nodes (descend nodes 0 way) i)
HopThere nodes way i (Err f) = (end_there nodes (descend nodes 0 way) ≡ false) × (f ≡ of_memory Place)
