-- How many nodes a table tells of at most.
use Rattle.std.proofs.Common.{◌≡◌, ℕ, ◌≤◌, true, leb, List, length, Some, None, Option, Ok, Err, Result, IfOk, ap, ◌∙◌, arith, leb-true}
use Rattle.std.proofs.lemmas.Bool.Decides.{nat_tests}
use Rattle.bits.specs.Rows.{Bits}
use Rattle.bits.proofs.Orders.{decided, fails, holds}
use Rattle.faults.specs.declared.Fault.{Fault}
use Rattle.images.proofs.Inserting.{needs_within}
use Rattle.laws.proofs.Matches.{match_laws}
use Rattle.model.specs.Calls.{Answer, Plain, answer, counted, delete, deleted, holding, hop_is, insert, inserted, loaded, lookup, matched, opened, removed, route_is, shut, written}
use Rattle.model.specs.Nodes.{Nodes}
use Rattle.model.specs.Outcomes.{Outcome, and_then, granted, outcome, refused}
use Rattle.model.specs.Placements.{Placement}
use Rattle.model.specs.Plans.{plan_ok}
use Rattle.model.specs.Required.{required}
use Rattle.model.specs.Routes.{Routes, find, last_hop, prefix_of, put, sound}
use Rattle.nodes.specs.Fields.{most_nodes}
use Rattle.address.specs.declared.Address.{Ghosts}
use Rattle.descent.specs.declared.walk.Matched.{Matched}
use Rattle.table.specs.Answers.{delete_answer, insert_answer, match_answer}
use Rattle.table.specs.declared.Deleted.{Deleted}
use Rattle.table.specs.declared.Inserted.{Inserted}
use Rattle.table.specs.Stands.{StandsFor}

-- ---- how many nodes are told of

abbrev pub nodes_in : Answer → ℕ
nodes_in opened = 0
nodes_in (inserted old taken) = taken
nodes_in (deleted hop returned) = returned
nodes_in (matched found visits) = visits
nodes_in (hop_is hop) = 0
nodes_in (route_is r) = 0
nodes_in (counted routes required free) = 0
nodes_in (written long output) = 0
nodes_in (loaded number) = 0

abbrev pub Few : Outcome Answer → Type 0
Few (granted a) = nodes_in a ≤ most_nodes
Few (refused number layer place) = Unit {0}

plan_short : (W : ℕ) (plan : List ℕ) → plan_ok W plan ≡ true → length plan ≤ 32
unfolding plan_ok
plan_short W plan h = grind (arith, nat_tests)

module _ (W : ℕ) (nodes : Nodes) (few : nodes.size ≤ most_nodes) (strides : Option (List ℕ)) (chain count needs : ℕ) where
  pub insert_few : (plain : Plain) (at : Placement) (a : Bits) (l h : ℕ) → StandsFor W nodes strides chain count needs plain at → Few (answer W nodes.size plain (insert a l h))
  insert_few shut at a l h stands = tt
  insert_few (holding plan routes) at a l h stands =
      let then = put routes (prefix_of a l) h in
      elim (decided (leb l W)) [
        | holds e ↦ elim (decided (sound a l)) [
          | holds s ↦ elim (decided (leb h last_hop)) [
            | holds k ↦ elim (decided (leb (required plan then) nodes.size)) [
              | holds n ↦ simp (e, s, k, n) (let room = leb-true (required plan then) nodes.size n in omega arith)
              | fails n ↦ simp (e, s, k, n) tt
            ]
            | fails k ↦ simp (e, s, k) tt
          ]
          | fails s ↦ simp (e, s) tt
        ]
        | fails e ↦ simp e tt
      ]

  removed_few : (plan : List ℕ) (routes : Routes) (p : Bits) (o : Option ℕ) → required plan routes ≤ nodes.size
      → Few (and_then (removed plan routes p o) (λ d. granted d.answered))
  removed_few plan routes p None within = tt
  removed_few plan routes p (Some h) within = omega arith

  pub delete_few : (plain : Plain) (at : Placement) (a : Bits) (l : ℕ) → StandsFor W nodes strides chain count needs plain at → Few (answer W nodes.size plain (delete a l))
  delete_few shut at a l stands = tt
  delete_few (holding plan routes) at a l stands =
      let within = needs_within nodes.size plan routes at stands.shows.sound in
      elim (decided (leb l W)) [
        | holds e ↦ elim (decided (sound a l)) [
          | holds s ↦ simp (e, s) (removed_few plan routes (prefix_of a l) (find routes (prefix_of a l)) within)
          | fails s ↦ simp (e, s) tt
        ]
        | fails e ↦ simp e tt
      ]

  pub lookup_few : (plain : Plain) (at : Placement) (a : Bits) → length a ≡ W → StandsFor W nodes strides chain count needs plain at → Few (answer W nodes.size plain (lookup a))
  lookup_few shut at a long stands = tt
  lookup_few (holding plan routes) at a long stands =
      let planned = stands.shows.holdable.planned in
      let short = plan_short W plan planned in
      let visits = match_laws.path_within_plan plan routes a (ap (λ w. plan_ok w plan) long ∙ planned) in
      omega arith

-- ---- what is told of is what was answered

pub taken_few : (r : Result Inserted Fault) → Few (outcome insert_answer r) → IfOk r (λ x. x.taken ≤ most_nodes)
taken_few (Ok x) few = few
taken_few (Err e) few = tt

pub returned_few : (r : Result Deleted Fault) → Few (outcome delete_answer r) → IfOk r (λ x. x.returned ≤ most_nodes)
returned_few (Ok x) few = few
returned_few (Err e) few = tt

module _ {X : Type 0} {G : Ghosts X} (bits : X → Bits) where
  pub visited_few : (r : Result (Matched X G) Fault) → Few (outcome (match_answer bits) r) → IfOk r (λ x. x.visits ≤ most_nodes)
  visited_few (Ok x) few = few
  visited_few (Err e) few = tt
