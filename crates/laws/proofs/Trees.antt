-- On any nodes at all, the routes that the tree spells are those that it holds, and they ascend.
use Rattle.std.proofs.Common.{◌≡◌, ℕ, zero, suc, ◌<◌, ◌≤◌, Bool, true, false, cond, eqb, ltb, List, [], ◌∷◌, ◌++◌, length, take, drop, Some, None, Option, sym, refl, ap, ◌∙◌, subst, append_assoc, append-nil, le_of_suc-le-suc, not-suc-le-zero, take-append-drop, ltb-false, ltb-true}
use Rattle.bits.specs.Rows.{Bits, number}
use Rattle.bits.specs.Order.{order, same}
use Rattle.model.specs.Nodes.{Nodes, entry, held, hop_at, hop_of, in_order, spelled, spelled_from, spot}
use Rattle.model.specs.Places.{position}
use Rattle.model.specs.Routes.{Routes, Above, Ascending, find}
use Rattle.bits.proofs.Orders.{less, equal, greater, compared, holds, fails, decided, order_extends, order_flips, order_self}

-- ---- rows that begin alike

pub order_common : (p q r : Bits) → order (p ++ q) (p ++ r) ≡ order q r
unfolding order
order_common [] q r = refl
order_common (false ∷ p) q r = order_common p q r
order_common (true ∷ p) q r = order_common p q r

-- ---- parts of a list of routes

find_behind : (xs ys : Routes) (q : Bits) → find xs q ≡ None → find (xs ++ ys) q ≡ find ys q
find_behind [] ys q h = refl
find_behind (r ∷ xs) ys q h = elim (compared q r.prefix) [
  | less e ↦ simp e (find_behind xs ys q (simp e at h))
  | equal e ↦ (let wrong = simp e at h in cc)
  | greater e ↦ simp e (find_behind xs ys q (simp e at h))
]

find_front : (xs ys : Routes) (q : Bits) → find ys q ≡ None → find (xs ++ ys) q ≡ find xs q
find_front [] ys q h = h
find_front (r ∷ xs) ys q h = elim (compared q r.prefix) [
  | less e ↦ simp e (find_front xs ys q h)
  | equal e ↦ simp e
  | greater e ↦ simp e (find_front xs ys q h)
]

above_append : (xs ys : Routes) (p : Bits) → Above p xs → Above p ys → Above p (xs ++ ys)
above_append [] ys p a b = b
above_append (x ∷ xs) ys p a b = a

-- every prefix goes on from p
unfoldable pub Under : Bits → Routes → Type 0
Under p [] = Unit {0}
Under p (r ∷ rs) = ((q : Bits) × (r.prefix ≡ p ++ q)) × Under p rs

pub under_append : (p : Bits) (xs ys : Routes) → Under p xs → Under p ys → Under p (xs ++ ys)
unfolding Under
under_append p [] ys u v = v
under_append p (x ∷ xs) ys u v = (u.0, under_append p xs ys u.1 v)

pub under_less : (p : Bits) (b : Bool) (rs : Routes) → Under (p ++ (b ∷ [])) rs → Under p rs
unfolding Under
under_less p b [] u = tt
under_less p b (r ∷ rs) u = ((b ∷ u.0.0, u.0.1 ∙ append_assoc p (b ∷ []) u.0.0), under_less p b rs u.1)

under_misses : (p q : Bits) (rs : Routes) → ((x : Bits) → same q (p ++ x) ≡ false) → Under p rs → find rs q ≡ None
unfolding Under
under_misses p q [] h u = refl
under_misses p q (r ∷ rs) h u = rw (u.0.1, h u.0.0) (under_misses p q rs h u.1)

pub under_above : (p : Bits) (b : Bool) (rs : Routes) → Under (p ++ (b ∷ [])) rs → Above p rs
unfolding Under
under_above p b [] u = tt
under_above p b (r ∷ rs) u = rw (u.0.1, append_assoc p (b ∷ []) u.0.0) (order_extends p b u.0.0)

-- those that go on with 0 stand before those that go on with 1
pub halves_above : (p q : Bits) (ys : Routes) → Under (p ++ (true ∷ [])) ys → Above (p ++ (false ∷ []) ++ q) ys
unfolding Under order
halves_above p q [] v = tt
halves_above p q (y ∷ ys) v =
    rw (v.0.1, append_assoc p (true ∷ []) v.0.0, append_assoc p (false ∷ []) q) (order_common p (false ∷ q) (true ∷ v.0.0))

halves_ascend : (p : Bits) (xs ys : Routes) → Under (p ++ (false ∷ [])) xs → Under (p ++ (true ∷ [])) ys → Ascending xs → Ascending ys
    → Ascending (xs ++ ys)
unfolding Under
halves_ascend p [] ys u v s t = t
halves_ascend p (x ∷ xs) ys u v s t =
    (above_append xs ys x.prefix s.0 (rw u.0.1 (halves_above p u.0.0 ys v)), halves_ascend p xs ys u.1 v s.1 t)

-- ---- within a node

pub entry_under : (p : Bits) (o : Option ℕ) → Under p (entry p o)
unfolding Under
entry_under p None = tt
entry_under p (Some h) = (([], sym (append-nil p)), tt)

entry_ascends : (p : Bits) (o : Option ℕ) (rs : Routes) → Above p rs → Ascending rs → Ascending (entry p o ++ rs)
entry_ascends p None rs a s = s
entry_ascends p (Some h) rs a s = (a, s)

entry_find : (p : Bits) (o : Option ℕ) (rs : Routes) → find rs p ≡ None → find (entry p o ++ rs) p ≡ o
entry_find p None rs h = h
entry_find p (Some x) rs h = rw (order_self p)

entry_misses : (p : Bits) (o : Option ℕ) (b : Bool) (q : Bits) → find (entry p o) (p ++ (b ∷ q)) ≡ None
entry_misses p None b q = refl
entry_misses p (Some x) b q = rw (order_flips p (p ++ (b ∷ q)), order_extends p b q)

-- a row that goes on otherwise
other_way : (p cs x : Bits) → same (p ++ (false ∷ cs)) (p ++ (true ∷ []) ++ x) ≡ false
unfolding order
other_way p cs x = rw (append_assoc p (true ∷ []) x, order_common p (false ∷ cs) (true ∷ x))

way_other : (p cs x : Bits) → same (p ++ (true ∷ cs)) (p ++ (false ∷ []) ++ x) ≡ false
unfolding order
way_other p cs x = rw (append_assoc p (false ∷ []) x, order_common p (true ∷ cs) (false ∷ x))

too_short : (p : Bits) (b : Bool) (x : Bits) → same p (p ++ (b ∷ []) ++ x) ≡ false
too_short p b x = rw (append_assoc p (b ∷ []) x, order_extends p b x)

module _ (path : Bits) (o : Bits → Option ℕ) (below : Bits → Routes) where
  unfoldable pub routes_of : ℕ → Bits → Routes
  routes_of more bs = in_order (λ cs. entry (path ++ cs) (o cs)) below more bs

  -- where the bits cs land, bs being used within the node
  landed : ℕ → Bits → Bits → Option ℕ
  landed zero bs cs = find (below bs) (path ++ bs ++ cs)
  landed (suc more) bs [] = o bs
  landed (suc more) bs (c ∷ cs) = landed more (bs ++ (c ∷ [])) cs

  module _ (under : (bs : Bits) → Under (path ++ bs) (below bs)) where
    pub order_under : (more : ℕ) (bs : Bits) → Under (path ++ bs) (routes_of more bs)
    unfolding routes_of
    order_under zero bs = under bs
    order_under (suc more) bs =
        let half : (b : Bool) → Under (path ++ bs) (routes_of more (bs ++ (b ∷ []))) =
        λ b. under_less (path ++ bs) b (routes_of more (bs ++ (b ∷ []))) (rw append_assoc (order_under more (bs ++ (b ∷ [])))) in
        under_append (path ++ bs) (entry (path ++ bs) (o bs)) _ (entry_under (path ++ bs) (o bs))
        (under_append (path ++ bs) (routes_of more (bs ++ (false ∷ []))) (routes_of more (bs ++ (true ∷ []))) (half false) (half true))

    pub half_under : (more : ℕ) (bs : Bits) (b : Bool) → Under (path ++ bs ++ (b ∷ [])) (routes_of more (bs ++ (b ∷ [])))
    half_under more bs b = rw append_assoc (order_under more (bs ++ (b ∷ [])))

    order_ascends : ((bs : Bits) → Ascending (below bs)) → (more : ℕ) (bs : Bits) → Ascending (routes_of more bs)
    unfolding routes_of
    order_ascends a zero bs = a bs
    order_ascends a (suc more) bs =
        let p = path ++ bs in
        let xs = routes_of more (bs ++ (false ∷ [])) in
        let ys = routes_of more (bs ++ (true ∷ [])) in
        entry_ascends p (o bs) (xs ++ ys)
        (above_append xs ys p (under_above p false xs (half_under more bs false)) (under_above p true ys (half_under more bs true)))
        (halves_ascend p xs ys (half_under more bs false) (half_under more bs true)
        (order_ascends a more (bs ++ (false ∷ []))) (order_ascends a more (bs ++ (true ∷ []))))

    order_find : (more : ℕ) (bs cs : Bits) → find (routes_of more bs) (path ++ bs ++ cs) ≡ landed more bs cs
    unfolding routes_of landed
    order_find zero bs cs = refl
    order_find (suc more) bs [] =
        let p = path ++ bs in
        let xs = routes_of more (bs ++ (false ∷ [])) in
        let ys = routes_of more (bs ++ (true ∷ [])) in
        let none : find (xs ++ ys) p ≡ None =
        find_behind xs ys p (under_misses (p ++ (false ∷ [])) p xs (too_short p false) (half_under more bs false))
        ∙ under_misses (p ++ (true ∷ [])) p ys (too_short p true) (half_under more bs true) in
        rw append-nil (entry_find p (o bs) (xs ++ ys) none)
    order_find (suc more) bs (false ∷ cs) =
        let p = path ++ bs in
        let xs = routes_of more (bs ++ (false ∷ [])) in
        let ys = routes_of more (bs ++ (true ∷ [])) in
        find_behind (entry p (o bs)) (xs ++ ys) (p ++ (false ∷ cs)) (entry_misses p (o bs) false cs)
        ∙ find_front xs ys (p ++ (false ∷ cs)) (under_misses (p ++ (true ∷ [])) (p ++ (false ∷ cs)) ys (other_way p cs) (half_under more bs true))
        ∙ simp append_assoc (simp append_assoc at (order_find more (bs ++ (false ∷ [])) cs))
    order_find (suc more) bs (true ∷ cs) =
        let p = path ++ bs in
        let xs = routes_of more (bs ++ (false ∷ [])) in
        let ys = routes_of more (bs ++ (true ∷ [])) in
        find_behind (entry p (o bs)) (xs ++ ys) (p ++ (true ∷ cs)) (entry_misses p (o bs) true cs)
        ∙ find_behind xs ys (p ++ (true ∷ cs)) (under_misses (p ++ (false ∷ [])) (p ++ (true ∷ cs)) xs (way_other p cs) (half_under more bs false))
        ∙ simp append_assoc (simp append_assoc at (order_find more (bs ++ (true ∷ [])) cs))

  -- fewer bits than there are levels land in the node, more go on below it
  landed_here : (more : ℕ) (bs cs : Bits) → length cs < more → landed more bs cs ≡ o (bs ++ cs)
  unfolding landed
  landed_here zero bs cs h = absurd (not-suc-le-zero h)
  landed_here (suc more) bs [] h = rw append-nil
  landed_here (suc more) bs (c ∷ cs) h = landed_here more (bs ++ (c ∷ [])) cs (le_of_suc-le-suc h) ∙ ap o (append_assoc bs (c ∷ []) cs)

  landed_below : (more : ℕ) (bs cs : Bits) → more ≤ length cs → landed more bs cs ≡ find (below (bs ++ take more cs)) (path ++ bs ++ cs)
  unfolding landed
  landed_below zero bs cs h = rw append-nil
  landed_below (suc more) bs [] h = absurd (not-suc-le-zero h)
  landed_below (suc more) bs (c ∷ cs) h =
      landed_below more (bs ++ (c ∷ [])) cs (le_of_suc-le-suc h)
      ∙ ap (λ (x : Bits). find (below x) (path ++ (bs ++ (c ∷ [])) ++ cs)) (append_assoc bs (c ∷ []) (take more cs))
      ∙ ap (find (below (bs ++ (c ∷ take more cs)))) (simp append_assoc)

-- ---- from node to node

module _ (nodes : Nodes) where
  unfoldable pub child_routes : List ℕ → ℕ → Bits → Bits → Routes
  child_routes ss n path bs =
      let c = nodes.child n (number bs) in
      cond (eqb c 0) [] (spelled_from nodes ss c (path ++ bs))

  unfoldable pub here : ℕ → Bits → Option ℕ
  here n bs = hop_at nodes n (position bs)

  spelled_under : (ss : List ℕ) (n : ℕ) (path : Bits) → Under path (spelled_from nodes ss n path)
  unfolding Under child_routes here routes_of
  spelled_under [] n path = tt
  spelled_under (s ∷ ss) n path =
      subst (λ (p : Bits). Under p (spelled_from nodes (s ∷ ss) n path)) (append-nil path)
      (order_under path (here n) (child_routes ss n path)
      (λ bs. elim (decided (eqb (nodes.child n (number bs)) 0)) [
        | holds e ↦ simp e tt
        | fails e ↦ simp e (spelled_under ss (nodes.child n (number bs)) (path ++ bs))
      ])
      s [])

  pub child_under : (ss : List ℕ) (n : ℕ) (path bs : Bits) → Under (path ++ bs) (child_routes ss n path bs)
  unfolding Under child_routes
  child_under ss n path bs = elim (decided (eqb (nodes.child n (number bs)) 0)) [
    | holds e ↦ simp e tt
    | fails e ↦ simp e (spelled_under ss (nodes.child n (number bs)) (path ++ bs))
  ]

  pub spelled_ascends : (ss : List ℕ) (n : ℕ) (path : Bits) → Ascending (spelled_from nodes ss n path)
  unfolding child_routes here routes_of
  spelled_ascends [] n path = tt
  spelled_ascends (s ∷ ss) n path =
      order_ascends path (here n) (child_routes ss n path) (child_under ss n path)
      (λ bs. elim (decided (eqb (nodes.child n (number bs)) 0)) [
        | holds e ↦ simp e tt
        | fails e ↦ simp e (spelled_ascends ss (nodes.child n (number bs)) (path ++ bs))
      ])
      s []

  pub spelled_find : (ss : List ℕ) (n : ℕ) (path cs : Bits) → find (spelled_from nodes ss n path) (path ++ cs) ≡ hop_of nodes (spot nodes ss n cs)
  unfolding child_routes here routes_of
  spelled_find [] n path cs = refl
  spelled_find (s ∷ ss) n path cs =
      let found = rw append-nil at (order_find path (here n) (child_routes ss n path) (child_under ss n path) s [] cs) in
      let c = nodes.child n (number (take s cs)) in
      let parts : path ++ [] ++ cs ≡ path ++ take s cs ++ drop s cs =
      rw (append-nil, append_assoc path (take s cs) (drop s cs), take-append-drop s cs) in
      found ∙ elim (decided (ltb (length cs) s)) [
        | holds e ↦ simp e (landed_here path (here n) (child_routes ss n path) s [] cs (ltb-true (length cs) s e))
        | fails e ↦ simp e (landed_below path (here n) (child_routes ss n path) s [] cs (ltb-false (length cs) s e)
            ∙ elim (decided (eqb c 0)) [
              | holds k ↦ simp k
              | fails k ↦ simp k (ap (find (spelled_from nodes ss c (path ++ take s cs))) parts ∙ spelled_find ss c (path ++ take s cs) (drop s cs))
            ])
      ]

pub spells_held : (nodes : Nodes) (plan : List ℕ) (p : Bits) → find (spelled nodes plan) p ≡ held nodes plan p
unfolding spelled held
spells_held nodes plan p = spelled_find nodes plan 0 [] p

pub spells_ascending : (nodes : Nodes) (plan : List ℕ) → Ascending (spelled nodes plan)
unfolding spelled
spells_ascending nodes plan = spelled_ascends nodes plan 0 []
