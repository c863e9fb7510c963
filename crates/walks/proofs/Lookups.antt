-- On nodes that show routes, the walk of a lookup meets nodes alone and finds what the plain list answers.
use Rattle.std.proofs.Common.{◌≡◌, ℕ, ◌+◌, ◌<◌, true, eqb, List, [], ◌∷◌, length, sym, refl, ap, ◌∙◌, subst, arith}
use Rattle.std.proofs.lemmas.Bool.{lt-ltb, or_right}
use Rattle.bits.specs.Rows.{Bits, read_group}
use Rattle.laws.specs.Lists.{Holdable}
use Rattle.laws.proofs.Images.{image_laws}
use Rattle.laws.proofs.Ranges.{image_takeable}
use Rattle.model.specs.Nodes.{Nodes, walk}
use Rattle.model.specs.Outcomes.{granted}
use Rattle.model.specs.Placements.{Placement}
use Rattle.model.specs.Required.{path_count}
use Rattle.model.specs.Routes.{Routes, longest}
use Rattle.walks.specs.Shows.{Shows}
use Rattle.walks.specs.Walks.{visits_nodes, walked}

-- the memory has a root, and every child is a node that it has
pub record Closed (nodes : Nodes) : Type 0 where
  pub root : 0 < nodes.size
  pub children : (n i : ℕ) → nodes.child n i < nodes.size

-- nodes that show routes are such
pub shows_closed : (W : ℕ) (nodes : Nodes) (plan : List ℕ) (routes : Routes) (at : Placement) → Shows W nodes plan routes at → Closed nodes
shows_closed W nodes plan routes at shows =
    let children : (n i : ℕ) → nodes.child n i < nodes.size = λ n i.
    let within = (image_takeable W nodes.size plan routes at shows.holdable shows.sound).children n i in
    subst (λ (m : Nodes). m.child n i < m.size) (sym shows.is) within in
    record { root = (let one = children 0 0 in omega arith); children = children }

-- all that is visited are nodes
visits_there : (nodes : Nodes) → Closed nodes → (ss : List ℕ) (address : Bits) (o n : ℕ) → n < nodes.size
    → visits_nodes nodes ss address o n ≡ true
visits_there nodes closed [] address o n h = refl
visits_there nodes closed (s ∷ ss) address o n h =
    let c = nodes.child n (read_group address o s) in
    let below = visits_there nodes closed ss address (o + s) c (closed.children n (read_group address o s)) in
    simp (lt-ltb n nodes.size h) (or_right (eqb c 0) (visits_nodes nodes ss address (o + s) c) below)

-- what a lookup comes to
pub looks_up_shown : (W : ℕ) (nodes : Nodes) (plan : List ℕ) (routes : Routes) (at : Placement) (address : Bits) → length address ≡ W
    → Shows W nodes plan routes at
    → walked nodes plan address ≡ granted (record { found = longest routes address; visits = path_count plan routes address })
unfolding walked
looks_up_shown W nodes plan routes at address size shows =
    let closed = shows_closed W nodes plan routes at shows in
    let can = subst (λ (w : ℕ). Holdable w plan routes) (sym size) shows.holdable in
    simp (visits_there nodes closed plan address 0 0 closed.root)
    (ap granted (ap (λ (m : Nodes). walk m plan address) shows.is ∙ image_laws.looks_up nodes.size plan routes at address can shows.sound))
