-- What a lookup's walk comes to on any memory. A child may be no node of the memory; where the walk meets such a one, the memory refuses it.
use Rattle.std.specs.Prelude.{ℕ, ◌+◌, Bool, true, ◌&&◌, ◌||◌, List, [], ◌∷◌, ◌==◌}
use Rattle.faults.specs.declared.Layer.TheVariants.{Memory}
use Rattle.faults.specs.Numbers.{outside}
use Rattle.bits.specs.Rows.{Bits, read_group}
use Rattle.model.specs.Nodes.{Nodes, Walk, walk}
use Rattle.model.specs.Outcomes.{Outcome, granted, provided}
use Rattle.nodes.specs.Fields.{is_node}

-- goes on where the memory has the nodes that are read, and passes its refusal up where it has not
abbrev pub if_there : {A : Type 0} → Bool → Outcome A → Outcome A
if_there there rest = provided there outside Memory 0 rest

-- from a node on, o bits being used: every node that the walk visits is one that the memory has
abbrev pub visits_nodes : Nodes → List ℕ → Bits → ℕ → ℕ → Bool
visits_nodes nodes [] address o n = true
visits_nodes nodes (s ∷ ss) address o n =
    let c = nodes.child n (read_group address o s) in
    let below = visits_nodes nodes ss address (o + s) c in
    is_node nodes n && (c == 0 || below)

-- the walk of a lookup
unfoldable pub walked : Nodes → List ℕ → Bits → Outcome Walk
walked nodes plan address = if_there (visits_nodes nodes plan address 0 0) (granted (walk nodes plan address))
