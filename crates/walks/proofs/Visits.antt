-- On any nodes, a walk visits at most one node for each stride, and at least one where there is a stride.
use Rattle.std.proofs.Common.{ℕ, suc, ◌+◌, ◌-◌, ◌^◌, ◌≤◌, Bool, true, false, cond, eqb, List, [], ◌∷◌, length, None, Option, arith}
use Rattle.bits.specs.Rows.{Bits, read_group}
use Rattle.model.specs.Nodes.{Nodes, Walk, deepest, noted, visited, walk, walk_from}
use Rattle.model.specs.Routes.{Route}

visited_within : (t : Bool) (f : Option Route) (w : Walk) (k : ℕ) → w.visits ≤ k
    → (visited (cond t (record { found = f; visits = 0 }) w)).visits ≤ suc k
visited_within true f w k h = omega arith
visited_within false f w k h = omega arith

visits_from : (nodes : Nodes) (ss : List ℕ) (address : Bits) (o n : ℕ) (f : Option Route)
    → (walk_from nodes ss address o n f).visits ≤ length ss
visits_from nodes [] address o n f = omega arith
visits_from nodes (s ∷ ss) address o n f =
    let c = nodes.child n (read_group address o s) in
    let here = noted nodes n o address (deepest (nodes.bitmap n) s (2 ^ (s - 1) + read_group address o (s - 1))) f in
    visited_within (eqb c 0) here (walk_from nodes ss address (o + s) c here) (length ss) (visits_from nodes ss address (o + s) c here)

-- no more nodes than there are strides
pub visits_within : (nodes : Nodes) (plan : List ℕ) (address : Bits) → (walk nodes plan address).visits ≤ length plan
unfolding walk
visits_within nodes plan address = visits_from nodes plan address 0 0 None

-- and the root, where there is a stride
pub visits_some : (nodes : Nodes) (plan : List ℕ) (address : Bits) → 1 ≤ length plan → 1 ≤ (walk nodes plan address).visits
unfolding walk
visits_some nodes [] address h = absurd (omega arith)
visits_some nodes (s ∷ ss) address h = omega arith
