-- On nodes that show routes something is spelled below every child, and the search for the smallest route comes to the plain list's.
use Rattle.std.proofs.Common.{◌≡◌, ℕ, ◌≤◌, true, false, eqb, List, [], ◌∷◌, ◌++◌, length, take, drop, is_some, sym, refl, ap, ◌∙◌, subst, arith, take-append-drop, take_all}
use Rattle.std.proofs.lemmas.Bool.{lt-ltb}
use Rattle.bits.specs.Rows.{Bits, number}
use Rattle.laws.specs.Lists.{Holdable}
use Rattle.laws.proofs.ImageNodes.{Serves, child_here, holds_from, next, next_length, next_rest, next_serves, root_serves, serves_leads}
use Rattle.laws.proofs.Images.{image_laws}
use Rattle.laws.proofs.Plans.{ranged}
use Rattle.laws.proofs.Ranges.{node_below}
use Rattle.laws.proofs.Trees.{spelled_find}
use Rattle.laws.proofs.Ways.{Rest, rest_all, way_front}
use Rattle.model.specs.Nodes.{Nodes, spelled, spelled_from}
use Rattle.model.specs.Outcomes.{granted}
use Rattle.model.specs.Placements.{Placement, SoundPlacement, image, node_at}
use Rattle.model.specs.Plans.{offsets}
use Rattle.model.specs.Routes.{Routes, find, smallest}
use Rattle.nodes.specs.Fields.{is_node}
use Rattle.walks.specs.Shows.{Shows}
use Rattle.walks.specs.Smallest.{smallest_of}
use Rattle.walks.proofs.Fruitful.{Bears, Fruitful, smallest_comes}

-- where something is found there is a smallest
found_some : (rs : Routes) (p : Bits) → is_some (find rs p) ≡ true → is_some (smallest rs) ≡ true
found_some [] p h = h
found_some (r ∷ rs) p h = refl

module _ (W N : ℕ) (plan : List ℕ) (routes : Routes) (at : Placement) (can : Holdable W plan routes) (sound : SoundPlacement N plan routes at) where
  abbrev nodes : Nodes
  nodes = image N plan routes at

  -- below the node of a path other than the root there is a route
  spelled_some : (q : Bits) (ss : List ℕ) → 1 ≤ length q → Rest W plan (length q) ss → Serves W N plan routes at can sound q
      → Bears nodes ss (node_at at.used q) q
  spelled_some q ss some rest serves =
      let lead = serves_leads W N plan routes at can sound q some serves in
      let ahead = way_front (offsets plan) lead.prefix q lead.on_way in
      let r = drop (length q) lead.prefix in
      let n = node_at at.used q in
      let whole : q ++ r ≡ lead.prefix = ap (λ (x : Bits). x ++ r) (sym ahead.0) ∙ take-append-drop (length q) lead.prefix in
      let found : find (spelled_from nodes ss n q) (q ++ r) ≡ find routes (q ++ r) =
      spelled_find nodes ss n q r ∙ holds_from W N plan routes at can sound ss q r rest serves in
      found_some (spelled_from nodes ss n q) (q ++ r) (ap is_some found ∙ ap (λ (p : Bits). is_some (find routes p)) whole ∙ lead.held)

  -- a path has one of the memory's nodes
  is_there : (path : Bits) → is_node nodes (node_at at.used path) ≡ true
  unfolding image
  is_there path = lt-ltb (node_at at.used path) N (node_below W N plan routes at can sound path)

  -- from the node of a path on, something is spelled below every child
  fruitful_from : (ss : List ℕ) (path : Bits) → Rest W plan (length path) ss → Serves W N plan routes at can sound path
      → Fruitful nodes ss (node_at at.used path) path
  unfolding Fruitful next
  fruitful_from [] path rest serves = tt
  fruitful_from (s ∷ ss) path rest serves = (
    is_there path,
    λ bs size e.
        let long : s ≤ length bs = omega arith in
        let all : take s bs ≡ bs = take_all s bs (omega arith) in
        let n = node_at at.used path in
        let q = next W N plan routes at can sound path bs s ss rest long in
        let child = child_here W N plan routes at can sound path bs s ss rest serves long in
        let other : eqb (node_at at.used q) 0 ≡ false =
        ap (λ (k : ℕ). eqb k 0) (sym child ∙ ap (λ (x : Bits). nodes.child n (number x)) all) ∙ e in
        let onward = next_rest W N plan routes at can sound path bs s ss rest long in
        let there = next_serves W N plan routes at can sound path bs s ss rest long other in
        let longer = next_length W N plan routes at can sound path bs s ss rest long in
        let low = (ranged s ss rest.range).low in
        let below : Bears nodes ss (node_at at.used q) q × Fruitful nodes ss (node_at at.used q) q =
        (spelled_some q ss (omega arith) onward there, fruitful_from ss q onward there) in
        let fruits : Bits → Type 0 =
        λ x. Bears nodes ss (nodes.child n (number x)) (path ++ x) × Fruitful nodes ss (nodes.child n (number x)) (path ++ x) in
        subst fruits all (subst (λ (c : ℕ). Bears nodes ss c q × Fruitful nodes ss c q) (sym child) below),
  )

  -- ---- from the root

  root_fruitful : Fruitful nodes plan 0 []
  root_fruitful =
      subst (λ (n : ℕ). Fruitful nodes plan n []) sound.root
      (fruitful_from plan [] (rest_all W plan can.planned) (root_serves W N plan routes at can sound))

-- ---- in a table

module _ (W : ℕ) (nodes : Nodes) (plan : List ℕ) (routes : Routes) (at : Placement) (shows : Shows W nodes plan routes at) where
  pub shows_fruitful : Fruitful nodes plan 0 []
  shows_fruitful =
      subst (λ (m : Nodes). Fruitful m plan 0 []) (sym shows.is) (root_fruitful W nodes.size plan routes at shows.holdable shows.sound)

  pub shows_spells : spelled nodes plan ≡ routes
  shows_spells = ap (λ (m : Nodes). spelled m plan) shows.is ∙ image_laws.spells W nodes.size plan routes at shows.holdable shows.sound

  pub smallest_shown : smallest_of nodes plan ≡ granted (smallest routes)
  unfolding smallest_of spelled
  smallest_shown = smallest_comes nodes plan 0 [] shows_fruitful ∙ ap (λ (rs : Routes). granted (smallest rs)) shows_spells
