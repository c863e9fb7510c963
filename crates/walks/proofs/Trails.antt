-- On nodes that show routes, the trail of a prefix goes through the nodes of the required paths on its way, and comes to its hop.
use Rattle.std.proofs.Common.{◌≡◌, ℕ, ◌+◌, ◌<◌, ◌≤◌, true, false, eqb, ltb, leb, List, [], ◌∷◌, ◌++◌, length, take, drop, sym, refl, ap, ◌∙◌, ap₂, not-suc-le-zero, arith, length-append, length-drop, length-take-le, take-take, take_at}
use Rattle.std.proofs.lemmas.Bool.{le-leb, leb-true, lt-leb, lt-ltb, ltb-false, ltb-true, or_right}
use Rattle.bits.specs.Rows.{Bits}
use Rattle.bits.specs.Order.{same}
use Rattle.bits.proofs.Orders.{holds, fails, decided, same_eq, same_self}
use Rattle.laws.specs.Lists.{Holdable}
use Rattle.laws.proofs.ImageNodes.{Serves, child_here, holds_routes, next, next_front, next_length, next_more, next_none, next_rest, next_serves, root_serves, unserved_more}
use Rattle.laws.proofs.Plans.{planned, ranged}
use Rattle.laws.proofs.Ways.{Rest, rest_all, way_front}
use Rattle.model.specs.Nodes.{Nodes, held}
use Rattle.model.specs.Outcomes.{granted}
use Rattle.model.specs.Placements.{Place, Placement, SoundPlacement, image, node_at, paths}
use Rattle.model.specs.Places.{indexes, position_of}
use Rattle.model.specs.Plans.{offsets, offsets_from, sum}
use Rattle.model.specs.Required.{member, required_paths, way}
use Rattle.model.specs.Routes.{Routes, find}
use Rattle.walks.specs.Shows.{Shows}
use Rattle.walks.specs.Trails.{are_nodes, looked_at, passed, serving, trail_in, trailed}
use Rattle.walks.proofs.Lookups.{Closed, shows_closed}

-- all that is passed are nodes
passed_there : (nodes : Nodes) → Closed nodes → (is : List ℕ) (n : ℕ) → n < nodes.size → are_nodes nodes (passed nodes n is) ≡ true
passed_there nodes closed [] n h = simp (lt-ltb n nodes.size h)
passed_there nodes closed (i ∷ is) n h = simp (lt-ltb n nodes.size h) (elim (decided (eqb (nodes.child n i) 0)) [
  | holds e ↦ simp e
  | fails e ↦ simp e (passed_there nodes closed is (nodes.child n i) (closed.children n i))
])

-- ---- the paths on the way behind an offset

-- a prefix that is shorter has none
pub way_none : (ss : List ℕ) (o : ℕ) (p : Bits) → length p < o → way (offsets_from o ss) p ≡ []
way_none [] o p h = refl
way_none (s ∷ ss) o p h = simp (lt-leb o (length p) h) (way_none ss (o + s) p (omega arith))

-- each has at least as many bits
way_long : (ss : List ℕ) (o : ℕ) (p x : Bits) → member x (way (offsets_from o ss) p) ≡ true → o ≤ length x
way_long [] o p x m = let z : ◌≡◌ {A = ℕ} 0 1 = cc in absurd (omega arith)
way_long (s ∷ ss) o p x m =
    let later : member x (way (offsets_from (o + s) ss) p) ≡ true → o ≤ length x =
    λ k. (let more = way_long ss (o + s) p x k in omega arith) in
    elim (decided (leb o (length p))) [
      | holds e ↦ elim (decided (same x (take o p))) [
        | holds f ↦
            (let size : length x ≡ o = ap length (same_eq x (take o p) f) ∙ length-take-le o p (leb-true o (length p) e) in
            omega arith)
        | fails f ↦ later (simp (e, f) at m)
      ]
      | fails e ↦ later (simp e at m)
    ]

-- paths of which none is required have no nodes
serving_none : (used : List Place) (required ps : List Bits) → ((x : Bits) → member x ps ≡ true → member x required ≡ false)
    → serving used required ps ≡ []
serving_none used required [] h = refl
serving_none used required (p ∷ ps) h =
    let here : member p required ≡ false = h p (simp (same_self p)) in
    simp here (serving_none used required ps (λ x m. h x (or_right (same x p) (member x ps) m)))

module _ (W N : ℕ) (plan : List ℕ) (routes : Routes) (at : Placement) (can : Holdable W plan routes) (sound : SoundPlacement N plan routes at) where
  abbrev nodes : Nodes
  nodes = image N plan routes at

  abbrev required : List Bits
  required = required_paths plan routes

  -- no path on the way behind one without a node is required
  rest_unserved : (path bs : Bits) (s : ℕ) (ss : List ℕ) (rest : Rest W plan (length path) (s ∷ ss)) (long : s ≤ length bs)
      → member (next W N plan routes at can sound path bs s ss rest long) (paths at.used) ≡ false
      → serving at.used required (way (offsets_from (length path + s) ss) (path ++ bs)) ≡ []
  rest_unserved path bs s ss rest long none =
      let q = next W N plan routes at can sound path bs s ss rest long in
      let size = next_length W N plan routes at can sound path bs s ss rest long in
      let range = ranged s ss rest.range in
      let onward = next_rest W N plan routes at can sound path bs s ss rest long in
      serving_none at.used required (way (offsets_from (length path + s) ss) (path ++ bs)) (λ x m.
      let more = way_long ss (length path + s) (path ++ bs) x m in
      let front = way_front (offsets_from (length path + s) ss) (path ++ bs) x m in
      let begins : take (length q) x ≡ q =
      ap (take (length q)) (sym front.0) ∙ take-take (length q) (length x) (path ++ bs) (omega arith)
      ∙ next_front W N plan routes at can sound path bs s ss rest long in
      sym (sound.served x) ∙ unserved_more W N plan routes at can sound x q ss (omega arith) onward none (omega arith) begins)

  passes_from : (ss : List ℕ) (path bs : Bits) → Rest W plan (length path) ss → Serves W N plan routes at can sound path → length bs < sum ss
      → passed nodes (node_at at.used path) (indexes ss bs) ≡ serving at.used required (way (offsets_from (length path) ss) (path ++ bs))
  unfolding next
  passes_from [] path bs rest serves h = absurd (not-suc-le-zero h)
  passes_from (s ∷ ss) path bs rest serves h =
      let size = length-append path bs in
      let reached = le-leb (length path) (length (path ++ bs)) (omega arith) in
      let here : member path required ≡ true = sym (sound.served path) ∙ serves in
      let front : take (length path) (path ++ bs) ≡ path = take_at path bs (length path) refl in
      simp (reached, front, here) (elim (decided (ltb (length bs) s)) [
        | holds e ↦
            (let near = ltb-true (length bs) s e in
            let none = way_none ss (length path + s) (path ++ bs) (omega arith) in
            simp (e, none))
        | fails e ↦
            (let long = ltb-false (length bs) s e in
            let c = child_here W N plan routes at can sound path bs s ss rest serves long in
            let q = next W N plan routes at can sound path bs s ss rest long in
            let left = length-drop s bs in
            let onward = next_rest W N plan routes at can sound path bs s ss rest long in
            let along : way (offsets_from (length q) ss) (q ++ drop s bs) ≡ way (offsets_from (length path + s) ss) (path ++ bs) =
            ap₂ (λ (o : ℕ) (p : Bits). way (offsets_from o ss) p) (next_length W N plan routes at can sound path bs s ss rest long)
            (next_more W N plan routes at can sound path bs s ss rest long) in
            elim (decided (eqb (node_at at.used q) 0)) [
              | holds k ↦
                  (let none = next_none W N plan routes at can sound path bs s ss rest long k in
                  simp (e, c, k, rest_unserved path bs s ss rest long none))
              | fails k ↦
                  (let there = next_serves W N plan routes at can sound path bs s ss rest long k in
                  simp (e, c, k)
                  (ap (λ (ns : List ℕ). node_at at.used path ∷ ns)
                  (passes_from ss q (drop s bs) onward there (omega arith) ∙ ap (serving at.used required) along)))
            ])
      ])

  passes_served : (p : Bits) → length p ≤ W → passed nodes 0 (indexes plan p) ≡ serving at.used required (way (offsets plan) p)
  passes_served p short =
      let total = (planned W plan can.planned).total in
      ap (λ (n : ℕ). passed nodes n (indexes plan p)) (sym sound.root)
      ∙ passes_from plan [] p (rest_all W plan can.planned) (root_serves W N plan routes at can sound) (omega arith)

-- ---- in a table

module _ (W : ℕ) (nodes : Nodes) (plan : List ℕ) (routes : Routes) (at : Placement) (p : Bits) where
  holds_shown : Shows W nodes plan routes at → held nodes plan p ≡ find routes p
  holds_shown shows =
      ap (λ (m : Nodes). held m plan p) shows.is ∙ holds_routes W nodes.size plan routes at shows.holdable shows.sound p

  passes_shown : length p ≤ W → Shows W nodes plan routes at
      → passed nodes 0 (indexes plan p) ≡ serving at.used (required_paths plan routes) (way (offsets plan) p)
  passes_shown short shows =
      ap (λ (m : Nodes). passed m 0 (indexes plan p)) shows.is
      ∙ passes_served W nodes.size plan routes at shows.holdable shows.sound p short

  all_there : Shows W nodes plan routes at → are_nodes nodes (passed nodes 0 (indexes plan p)) ≡ true
  all_there shows =
      let closed = shows_closed W nodes plan routes at shows in
      passed_there nodes closed (indexes plan p) 0 closed.root

  pub trails_shown : length p ≤ W → Shows W nodes plan routes at → trailed nodes plan p ≡ granted (trail_in plan routes at p)
  unfolding trailed trail_in
  trails_shown short shows =
      let through = passes_shown short shows in
      let hop = holds_shown shows in
      simp (all_there shows)
      (λ i. granted (record { nodes = through i; indexes = indexes plan p; position = position_of plan p; hop = hop i }))

  -- of any length
  pub exact_shown : Shows W nodes plan routes at → looked_at nodes plan p ≡ granted (find routes p)
  unfolding looked_at
  exact_shown shows = simp (all_there shows) (ap granted (holds_shown shows))
