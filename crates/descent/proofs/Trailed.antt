-- What the trail of a prefix comes to, from its steps.
use Rattle.std.proofs.Common.{◌≡◌, ℕ, ◌≤◌, true, false, ◌&&◌, List, length, Option, sym, ap, ◌∙◌, ap₂}
use Rattle.bits.specs.Rows.{Bits}
use Rattle.bits.proofs.Orders.{holds, fails, decided}
use Rattle.faults.specs.declared.Fault.{Fault}
use Rattle.faults.specs.declared.Refusal.TheVariants.{Place}
use Rattle.faults.specs.Numbers.{number_of, of_memory}
use Rattle.laws.proofs.Plans.{planned}
use Rattle.laws.proofs.Spots.{indexes_lead, lies_at_position}
use Rattle.model.specs.Nodes.{Nodes, descend, held, hop_in_node}
use Rattle.model.specs.Outcomes.{and_then, granted, refused}
use Rattle.model.specs.Places.{indexes, position_of}
use Rattle.model.specs.Plans.{plan_ok}
use Rattle.walks.specs.Trails.{Trail, are_nodes, looked_at, passed, trailed}
use Rattle.descent.specs.Passing.{end_there, readable}
use Rattle.descent.proofs.Passing.{all_readable, low_indexes}

module _ (W : ℕ) (nodes : Nodes) (plan : List ℕ) (p : Bits) (ok : plan_ok W plan ≡ true) (short : length p ≤ W) where
  abbrev way : List ℕ
  way = indexes plan p

  abbrev found_there : Trail
  found_there = record { nodes = passed nodes 0 way; indexes = way; position = position_of plan p; hop = held nodes plan p }

  all_there : are_nodes nodes (passed nodes 0 way) ≡ (readable nodes 0 way && end_there nodes (descend nodes 0 way))
  all_there = all_readable nodes 0 way (low_indexes plan p (planned W plan ok).range)

  held_there : held nodes plan p ≡ hop_in_node nodes (descend nodes 0 way) (position_of plan p)
  held_there =
      lies_at_position W nodes plan p ok short
      ∙ ap (λ n. hop_in_node nodes n (position_of plan p)) (sym (indexes_lead W nodes plan p ok short))

  pub trail_found : (through is : List ℕ) (at : ℕ) (hop : Option ℕ) → is ≡ way → through ≡ passed nodes 0 is → at ≡ position_of plan p
      → readable nodes 0 is ≡ true → end_there nodes (descend nodes 0 is) ≡ true → hop ≡ hop_in_node nodes (descend nodes 0 is) at
      → granted (record { nodes = through; indexes = is; position = at; hop = hop }) ≡ trailed nodes plan p
  unfolding trailed
  trail_found through is at hop e f h reads ends found =
      let there : are_nodes nodes (passed nodes 0 way) ≡ true = all_there ∙ simp (← e, reads, ends) in
      let nodes_there : through ≡ passed nodes 0 way = f ∙ ap (passed nodes 0) e in
      let hop_there : hop ≡ held nodes plan p = found ∙ ap₂ (λ (xs : List ℕ) (k : ℕ). hop_in_node nodes (descend nodes 0 xs) k) e h ∙ sym held_there in
      let same : record { nodes = through; indexes = is; position = at; hop = hop } ≡ found_there =
      λ i. record { nodes = nodes_there i; indexes = e i; position = h i; hop = hop_there i } in
      ap granted same ∙ simp there

  -- a child on the way, or its end, is no node
  pub trail_refused : (f : Fault) (is : List ℕ) → is ≡ way → f ≡ of_memory Place
      → (readable nodes 0 is && end_there nodes (descend nodes 0 is)) ≡ false → refused (number_of f.refusal) f.layer f.place ≡ trailed nodes plan p
  unfolding trailed
  trail_refused f is e place none =
      let gone : are_nodes nodes (passed nodes 0 way) ≡ false = all_there ∙ simp (← e, none) in
      simp (place, gone)

-- the hop of a prefix is that of its trail
pub looked_by_trail : (nodes : Nodes) (plan : List ℕ) (p : Bits) → and_then (trailed nodes plan p) (λ t. granted t.hop) ≡ looked_at nodes plan p
unfolding trailed looked_at
looked_by_trail nodes plan p = elim (decided (are_nodes nodes (passed nodes 0 (indexes plan p)))) [ holds e ↦ simp e | fails e ↦ simp e ]
