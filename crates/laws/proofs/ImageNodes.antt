-- The image of a sound placement holds each route where it lies, reaches the required paths and chains the free nodes.
use Rattle.std.proofs.Common.{◌≡◌, ℕ, suc, ◌+◌, ◌^◌, ◌<◌, ◌≤◌, true, false, cond, ◌||◌, eqb, ltb, List, [], ◌∷◌, ◌++◌, length, take, drop, is_some, Some, None, Option, sym, refl, ap, ◌∙◌, subst, append_assoc, append-nil, arith, length-append, take-append-drop, length-take-le, take-take}
use lib.Seq.{take-append-add}
use Rattle.std.proofs.lemmas.Bool.{lt-ltb, ltb-false, ltb-true, ne_eqb}
use Rattle.bits.specs.Rows.{Bits, number, row}
use Rattle.bits.proofs.Orders.{holds, fails, decided, number_lt}
use Rattle.bits.proofs.Prefixes.{row_number}
use Rattle.laws.specs.Lists.{Holdable}
use Rattle.laws.specs.Trees.{ReachesRequired}
use Rattle.laws.proofs.Positions.{hop_there}
use Rattle.laws.proofs.Served.{eqb_self, free_chained, listed_append, node_apart, node_listed, node_none, node_zero, once_apart, path_of, place_of}
use Rattle.laws.proofs.Plans.{ranged}
use Rattle.laws.proofs.Ways.{Held, Leads, Rest, begins_way, held_short, required_leads, rest_all, rest_next, root_required, stride_before, way_front, way_required, way_stride}
use Rattle.model.specs.Nodes.{Chain, Nodes, held, hop_at, hop_of, node_of, reached, spot}
use Rattle.model.specs.Places.{position}
use Rattle.model.specs.Placements.{Placement, SoundPlacement, front, image, listed, node_at, nodes_of, paths, stride_from}
use Rattle.model.specs.Plans.{offsets}
use Rattle.model.specs.Required.{member, required_paths}
use Rattle.model.specs.Routes.{Routes, find}

module _ (W N : ℕ) (plan : List ℕ) (routes : Routes) (at : Placement) (can : Holdable W plan routes) (sound : SoundPlacement N plan routes at) where
  abbrev nodes : Nodes
  nodes = image N plan routes at

  -- the path has a node
  abbrev pub Serves : Bits → Type 0
  Serves path = member path (paths at.used) ≡ true

  -- ---- the fields of the node of a path

  stride_here : (path : Bits) (s : ℕ) (ss : List ℕ) → Rest W plan (length path) (s ∷ ss) → stride_from 0 plan (length path) ≡ s
  stride_here path s ss rest = rest.strides (length path) (omega arith) ∙ simp eqb_self

  hop_here : (path bs : Bits) (s : ℕ) (ss : List ℕ) → Rest W plan (length path) (s ∷ ss) → Serves path → length bs < s
      → hop_at nodes (node_at at.used path) (position bs) ≡ find routes (path ++ bs)
  unfolding image
  hop_here path bs s ss rest serves h =
      simp (path_of N plan routes at sound path serves, stride_here path s ss rest)
      (hop_there path s bs routes h (ranged s ss rest.range).high)

  pub child_here : (path bs : Bits) (s : ℕ) (ss : List ℕ) → Rest W plan (length path) (s ∷ ss) → Serves path → s ≤ length bs
      → nodes.child (node_at at.used path) (number (take s bs)) ≡ node_at at.used (path ++ take s bs)
  unfolding image
  child_here path bs s ss rest serves h =
      let size = length-take-le s bs h in
      let small : number (take s bs) < 2 ^ s = subst (λ k. number (take s bs) < 2 ^ k) size (number_lt (take s bs)) in
      let below = lt-ltb (number (take s bs)) (2 ^ s) small in
      let same_row : row s (number (take s bs)) ≡ take s bs = ap (λ k. row k (number (take s bs))) (sym size) ∙ row_number (take s bs) in
      simp (path_of N plan routes at sound path serves, stride_here path s ss rest, below, same_row)

  -- ---- where there is no route

  find_none : (p : Bits) → (Held routes p → ⊥) → find routes p ≡ None
  find_none p none = by (find routes p) refl
    where
      by : (o : Option ℕ) → find routes p ≡ o → find routes p ≡ None
      by None e = e
      by (Some h) e = absurd (none (ap is_some e))

  find_long : (p : Bits) → W < length p → find routes p ≡ None
  find_long p h = find_none p (λ k. let short = held_short W routes p can.ranged k in omega arith)

  -- no route goes on from a path without a node
  unserved : (p q : Bits) (ss : List ℕ) → Rest W plan (length q) ss → member q (paths at.used) ≡ false
      → Held routes p → length q ≤ length p → take (length q) p ≡ q → ⊥
  unserved p q ss rest none h l e =
      let way = begins_way W plan ss p q rest (held_short W routes p can.ranged h) l e in
      let there = sound.served q ∙ way_required plan routes p q h way in
      let z : ◌≡◌ {A = ℕ} 0 1 = cc in
      omega arith

  -- ---- along the plan

  module _ (path bs : Bits) (s : ℕ) (ss : List ℕ) (rest : Rest W plan (length path) (s ∷ ss)) (long : s ≤ length bs) where
    unfoldable pub next : Bits
    next = path ++ take s bs

    pub next_length : length next ≡ length path + s
    unfolding next
    next_length = length-append path (take s bs) ∙ ap (λ k. length path + k) (length-take-le s bs long)

    pub next_rest : Rest W plan (length next) ss
    next_rest = subst (λ o. Rest W plan o ss) (sym next_length) (rest_next W plan (length path) s ss rest)

    pub next_more : next ++ drop s bs ≡ path ++ bs
    unfolding next
    next_more = append_assoc path (take s bs) (drop s bs) ∙ ap (λ (x : Bits). path ++ x) (take-append-drop s bs)

    pub next_front : take (length next) (path ++ bs) ≡ next
    unfolding next
    next_front = ap (λ k. take k (path ++ bs)) next_length ∙ take-append-add path bs s

    next_within : length next ≤ length (path ++ bs)
    next_within = let size = next_length in let all = length-append path bs in omega arith

    pub next_none : eqb (node_at at.used next) 0 ≡ true → member next (paths at.used) ≡ false
    next_none e =
        let size = next_length in
        let range = ranged s ss rest.range in
        node_zero N plan routes at sound (root_required plan routes) next (omega arith) e

    pub next_serves : eqb (node_at at.used next) 0 ≡ false → Serves next
    next_serves e = elim (decided (member next (paths at.used))) [
      | holds h ↦ h
      | fails h ↦ (let zero = node_none at.used next h in let wrong : eqb (node_at at.used next) 0 ≡ true = simp zero in cc)
    ]

  pub holds_from : (ss : List ℕ) (path bs : Bits) → Rest W plan (length path) ss → Serves path
      → hop_of nodes (spot nodes ss (node_at at.used path) bs) ≡ find routes (path ++ bs)
  unfolding next
  holds_from [] path bs rest serves =
      sym (find_long (path ++ bs) (let all = length-append path bs in let whole = rest.total in omega arith))
  holds_from (s ∷ ss) path bs rest serves = elim (decided (ltb (length bs) s)) [
    | holds e ↦ simp e (hop_here path bs s ss rest serves (ltb-true (length bs) s e))
    | fails e ↦
        (let long = ltb-false (length bs) s e in
        let c = child_here path bs s ss rest serves long in
        let q = next path bs s ss rest long in
        elim (decided (eqb (node_at at.used q) 0)) [
          | holds k ↦
              simp (e, c, k) (sym (find_none (path ++ bs) (λ h.
              unserved (path ++ bs) q ss (next_rest path bs s ss rest long) (next_none path bs s ss rest long k) h
              (next_within path bs s ss rest long) (next_front path bs s ss rest long))))
          | fails k ↦
              simp (e, c, k) (holds_from ss q (drop s bs) (next_rest path bs s ss rest long) (next_serves path bs s ss rest long k)
              ∙ ap (find routes) (next_more path bs s ss rest long))
        ])
  ]

  -- a path with a node leads to one of the plan's strides, and is the front of a route's prefix
  pub serves_leads : (q : Bits) → 1 ≤ length q → Serves q → Leads (offsets plan) routes q
  serves_leads [] l h = absurd (omega arith)
  serves_leads (b ∷ q) l h = required_leads plan routes b q (sym (sound.served (b ∷ q)) ∙ h)

  no_stride : (q : Bits) → 1 ≤ length q → stride_from 0 plan (length q) ≡ 0 → member q (paths at.used) ≡ false
  no_stride q l none = elim (decided (member q (paths at.used))) [
    | holds h ↦
        (let lead = serves_leads q l h in
        let some = way_stride plan 0 lead.prefix q (rest_all W plan can.planned).range lead.on_way in
        absurd (omega arith))
    | fails h ↦ h
  ]

  reaches_here : (path bs : Bits) (s : ℕ) (ss : List ℕ) → Rest W plan (length path) (s ∷ ss) → Serves path → length bs < s
      → node_of (Some (record { node = node_at at.used path; rest = bs }))
      ≡ cond (member (path ++ bs) (paths at.used)) (Some (node_at at.used (path ++ bs))) None
  reaches_here path [] s ss rest serves h = simp (append-nil, serves)
  reaches_here path (b ∷ bs) s ss rest serves h =
      let size = length-append path (b ∷ bs) in
      let other = ne_eqb (length (path ++ (b ∷ bs))) (length path) (λ e. omega arith) in
      let stride : stride_from 0 plan (length (path ++ (b ∷ bs))) ≡ 0 =
      rest.strides (length (path ++ (b ∷ bs))) (omega arith) ∙ simp other (stride_before ss (length path + s) (length (path ++ (b ∷ bs))) (omega arith)) in
      simp (no_stride (path ++ (b ∷ bs)) (omega arith) stride, ne_eqb (suc (length bs)) 0 (λ e. omega arith))

  -- no path with a node goes on from one without
  pub unserved_more : (p q : Bits) (ss : List ℕ) → 1 ≤ length p → Rest W plan (length q) ss → member q (paths at.used) ≡ false
      → length q ≤ length p → take (length q) p ≡ q → member p (paths at.used) ≡ false
  unserved_more p q ss some rest none l e = elim (decided (member p (paths at.used))) [
    | holds h ↦
        (let lead = serves_leads p some h in
        let ahead = way_front (offsets plan) lead.prefix p lead.on_way in
        let longer = ahead.1 in
        absurd (unserved lead.prefix q ss rest none lead.held (omega arith)
        (sym (take-take (length q) (length p) lead.prefix l) ∙ ap (take (length q)) ahead.0 ∙ e)))
    | fails h ↦ h
  ]

  reaches_from : (ss : List ℕ) (path bs : Bits) → Rest W plan (length path) ss → Serves path
      → node_of (spot nodes ss (node_at at.used path) bs)
      ≡ cond (member (path ++ bs) (paths at.used)) (Some (node_at at.used (path ++ bs))) None
  unfolding next
  reaches_from [] path bs rest serves =
      let size = length-append path bs in
      let whole = rest.total in
      simp (no_stride (path ++ bs) (omega arith) (rest.strides (length (path ++ bs)) (omega arith)))
  reaches_from (s ∷ ss) path bs rest serves = elim (decided (ltb (length bs) s)) [
    | holds e ↦ simp e (reaches_here path bs s ss rest serves (ltb-true (length bs) s e))
    | fails e ↦
        (let long = ltb-false (length bs) s e in
        let c = child_here path bs s ss rest serves long in
        let q = next path bs s ss rest long in
        let within = next_within path bs s ss rest long in
        let size = next_length path bs s ss rest long in
        let range = ranged s ss rest.range in
        elim (decided (eqb (node_at at.used q) 0)) [
          | holds k ↦
              simp (
                e,
                c,
                k,
                unserved_more (path ++ bs) q ss (omega arith) (next_rest path bs s ss rest long) (next_none path bs s ss rest long k)
                    within (next_front path bs s ss rest long),
              )
          | fails k ↦
              simp (e, c, k) (reaches_from ss q (drop s bs) (next_rest path bs s ss rest long) (next_serves path bs s ss rest long k)
              ∙ ap (λ (x : Bits). cond (member x (paths at.used)) (Some (node_at at.used x)) None) (next_more path bs s ss rest long))
        ])
  ]

  -- ---- from the root

  pub root_serves : Serves []
  root_serves = sound.served [] ∙ root_required plan routes

  pub holds_routes : (p : Bits) → held nodes plan p ≡ find routes p
  unfolding held
  holds_routes p =
      ap (λ n. hop_of nodes (spot nodes plan n p)) (sym sound.root)
      ∙ holds_from plan [] p (rest_all W plan can.planned) root_serves

  pub reaches_required : (q : Bits) → reached nodes plan q ≡ cond (member q (required_paths plan routes)) (Some (node_at at.used q)) None
  unfolding reached
  reaches_required q =
      ap (λ n. node_of (spot nodes plan n q)) (sym sound.root)
      ∙ reaches_from plan [] q (rest_all W plan can.planned) root_serves
      ∙ ap (λ t. cond t (Some (node_at at.used q)) None) (sound.served q)

  pub reaches_some : ReachesRequired nodes plan routes
  reaches_some q = ap is_some (reaches_required q) ∙ elim (decided (member q (required_paths plan routes))) [ holds e ↦ simp e | fails e ↦ simp e ]

-- the nodes of two paths, and the free nodes
module _ (N : ℕ) (plan : List ℕ) (routes : Routes) (at : Placement) (sound : SoundPlacement N plan routes at) where
  pub own_node : (p q : Bits) → member p (required_paths plan routes) ≡ true → member q (required_paths plan routes) ≡ true
      → node_at at.used p ≡ node_at at.used q → p ≡ q
  own_node p q h k e = node_apart N plan routes at sound p q (sound.served p ∙ h) (sound.served q ∙ k) e

  pub chains_free : Chain (image N plan routes at) (front at.free) at.free
  unfolding image
  chains_free = free_chained N plan routes at sound (root_required plan routes) (image N plan routes at) (λ n e. simp e)

-- the free nodes are exactly those that no path reaches
module _ (W N : ℕ) (plan : List ℕ) (routes : Routes) (at : Placement) (can : Holdable W plan routes) (sound : SoundPlacement N plan routes at) where
  pub free_unreached : (n : ℕ) (q : Bits) → listed n at.free ≡ true → reached (image N plan routes at) plan q ≡ Some n → ⊥
  free_unreached n q h e =
      let said = sym (reaches_required W N plan routes at can sound q) ∙ e in
      elim (decided (member q (required_paths plan routes))) [
        | holds k ↦
            (let same_node : Some (node_at at.used q) ≡ Some n = simp k at said in
            let is : node_at at.used q ≡ n = cc in
            let used : listed n (nodes_of at.used) ≡ true =
            subst (λ (m : ℕ). listed m (nodes_of at.used) ≡ true) is (node_listed at.used q (sound.served q ∙ k)) in
            let apart = once_apart n (nodes_of at.used) at.free sound.once used in
            let z : ◌≡◌ {A = ℕ} 0 1 = cc in
            omega arith)
        | fails k ↦ (let none : None ≡ Some n = simp k at said in let z : ◌≡◌ {A = ℕ} 0 1 = cc in omega arith)
      ]

  pub rest_reached : (n : ℕ) → n < N → listed n at.free ≡ false → (q : Bits) × (reached (image N plan routes at) plan q ≡ Some n)
  rest_reached n h e =
      let either : (listed n (nodes_of at.used) || listed n at.free) ≡ true =
      sym (listed_append n (nodes_of at.used) at.free) ∙ sound.each_node n ∙ lt-ltb n N h in
      let used : listed n (nodes_of at.used) ≡ true = elim (decided (listed n (nodes_of at.used))) [
        | holds k ↦ k
        | fails k ↦ (let wrong = simp (k, e) at either in let z : ◌≡◌ {A = ℕ} 0 1 = cc in absurd (omega arith))
      ] in
      let there = place_of at.used n sound.single used in
      let needed : member there.0 (required_paths plan routes) ≡ true = sym (sound.served there.0) ∙ there.1 in
      (there.0, reaches_required W N plan routes at can sound there.0 ∙ simp needed (ap (λ (m : ℕ). Some m) there.2))
