-- The longest match in a tree: in a node the bits decide between the halves, and a match below is longer than one above.
use Rattle.std.proofs.Common.{◌≡◌, ℕ, zero, suc, ◌<◌, ◌≤◌, Bool, true, false, leb, [], ◌∷◌, ◌++◌, length, take, Some, None, Option, sym, refl, ap, ◌∙◌, append_assoc, append-nil, le_of_suc-le-suc, not-suc-le-zero, arith, length-append, le-leb}
use Rattle.bits.specs.Rows.{Bits}
use Rattle.bits.specs.Order.{begins}
use Rattle.model.specs.Nodes.{entry}
use Rattle.model.specs.Routes.{Route, Routes, route, longer, longest}
use Rattle.bits.proofs.Orders.{holds, fails, decided}
use Rattle.laws.proofs.Trees.{Under, under_append, under_less, routes_of, half_under}

begins_common : (p x y : Bits) → begins (p ++ x) (p ++ y) ≡ begins x y
unfolding begins
begins_common [] x y = refl
begins_common (false ∷ p) x y = begins_common p x y
begins_common (true ∷ p) x y = begins_common p x y

begins_more : (p y : Bits) → begins p (p ++ y) ≡ true
unfolding begins
begins_more [] y = refl
begins_more (false ∷ p) y = begins_more p y
begins_more (true ∷ p) y = begins_more p y

-- the first that there is
abbrev pub or_else : Option Route → Option Route → Option Route
or_else (Some r) o = Some r
or_else None o = o

pub or_none : (o : Option Route) → or_else o None ≡ o
or_none (Some r) = refl
or_none None = refl

pub or_assoc : (a b c : Option Route) → or_else (or_else a b) c ≡ or_else a (or_else b c)
or_assoc (Some r) b c = refl
or_assoc None b c = refl

longer_some : (r : Route) (o : Option Route) → longer r o ≡ None → ◌≡◌ {A = ℕ} 0 1
longer_some r None h = cc
longer_some r (Some q) h = elim (decided (leb (length r.prefix) (length q.prefix))) [
  | holds e ↦ (let wrong = simp e at h in cc)
  | fails e ↦ (let wrong = simp e at h in cc)
]

longest_behind : (xs ys : Routes) (a : Bits) → longest xs a ≡ None → longest (xs ++ ys) a ≡ longest ys a
longest_behind [] ys a h = refl
longest_behind (r ∷ xs) ys a h = elim (decided (begins r.prefix a)) [
  | holds e ↦ (let wrong = longer_some r (longest xs a) (simp e at h) in absurd (omega arith))
  | fails e ↦ simp e (longest_behind xs ys a (simp e at h))
]

longest_front : (xs ys : Routes) (a : Bits) → longest ys a ≡ None → longest (xs ++ ys) a ≡ longest xs a
longest_front [] ys a h = h
longest_front (r ∷ xs) ys a h = simp (longest_front xs ys a h)

unmatched : (p a : Bits) (rs : Routes) → ((x : Bits) → begins (p ++ x) a ≡ false) → Under p rs → longest rs a ≡ None
unfolding Under
unmatched p a [] h u = refl
unmatched p a (r ∷ rs) h u = simp (u.0.1, h u.0.0) (unmatched p a rs h u.1)

-- what is found below is no shorter
Tall : Bits → Option Route → Type 0
Tall p None = Unit {0}
Tall p (Some q) = leb (length p) (length q.prefix) ≡ true

longer_tall : (p : Bits) (r : Route) (o : Option Route) → leb (length p) (length r.prefix) ≡ true → Tall p o → Tall p (longer r o)
unfolding Tall
longer_tall p r None h t = h
longer_tall p r (Some q) h t = elim (decided (leb (length r.prefix) (length q.prefix))) [ holds e ↦ simp e t | fails e ↦ simp e h ]

longest_tall : (p a : Bits) (rs : Routes) → Under p rs → Tall p (longest rs a)
unfolding Under Tall
longest_tall p a [] u = tt
longest_tall p a (r ∷ rs) u =
    let sum = ap length u.0.1 ∙ length-append p u.0.0 in
    let here = le-leb (length p) (length r.prefix) (omega arith) in
    let rest = longest_tall p a rs u.1 in
    elim (decided (begins r.prefix a)) [ holds e ↦ simp e (longer_tall p r (longest rs a) here rest) | fails e ↦ simp e rest ]

longer_route : (p : Bits) (h : ℕ) (o : Option Route) → Tall p o → longer (route p h) o ≡ or_else o (Some (route p h))
unfolding Tall
longer_route p h None t = refl
longer_route p h (Some q) t = simp t

-- the route at a place
abbrev pub route_at : Bits → Option ℕ → Option Route
route_at p None = None
route_at p (Some h) = Some (route p h)

entry_longest : (p : Bits) (o : Option ℕ) (rs : Routes) (cs : Bits) → Under p rs
    → longest (entry p o ++ rs) (p ++ cs) ≡ or_else (longest rs (p ++ cs)) (route_at p o)
entry_longest p None rs cs u = sym (or_none (longest rs (p ++ cs)))
entry_longest p (Some h) rs cs u = simp (begins_more p cs) (longer_route p h (longest rs (p ++ cs)) (longest_tall p (p ++ cs) rs u))

-- rows that go on otherwise, or on at all, do not begin a row
other_way : (p cs x : Bits) → begins (p ++ (true ∷ []) ++ x) (p ++ (false ∷ cs)) ≡ false
unfolding begins
other_way p cs x = rw (append_assoc p (true ∷ []) x, begins_common p (true ∷ x) (false ∷ cs))

way_other : (p cs x : Bits) → begins (p ++ (false ∷ []) ++ x) (p ++ (true ∷ cs)) ≡ false
unfolding begins
way_other p cs x = rw (append_assoc p (false ∷ []) x, begins_common p (false ∷ x) (true ∷ cs))

too_long : (p : Bits) (b : Bool) (x : Bits) → begins (p ++ (b ∷ []) ++ x) (p ++ []) ≡ false
unfolding begins
too_long p b x = rw (append_assoc p (b ∷ []) x, begins_common p (b ∷ x) [])

module _ (path : Bits) (o : Bits → Option ℕ) (below : Bits → Routes) where
  -- the longest match from some levels of the node on
  unfoldable pub down : ℕ → Bits → Bits → Option Route
  down zero bs cs = longest (below bs) (path ++ bs ++ cs)
  down (suc more) bs [] = route_at (path ++ bs) (o bs)
  down (suc more) bs (c ∷ cs) = or_else (down more (bs ++ (c ∷ [])) cs) (route_at (path ++ bs) (o bs))

  -- and that in the node alone
  unfoldable pub best : ℕ → Bits → Bits → Option Route
  best zero bs cs = None
  best (suc more) bs [] = route_at (path ++ bs) (o bs)
  best (suc more) bs (c ∷ cs) = or_else (best more (bs ++ (c ∷ [])) cs) (route_at (path ++ bs) (o bs))

  pub down_below : (more : ℕ) (bs cs : Bits) → more ≤ length cs
      → down more bs cs ≡ or_else (longest (below (bs ++ take more cs)) (path ++ bs ++ cs)) (best more bs cs)
  unfolding down best
  down_below zero bs cs h = rw append-nil (sym (or_none (longest (below bs) (path ++ bs ++ cs))))
  down_below (suc more) bs [] h = absurd (not-suc-le-zero h)
  down_below (suc more) bs (c ∷ cs) h =
      let rest = down_below more (bs ++ (c ∷ [])) cs (le_of_suc-le-suc h) in
      ap (λ t. or_else t (route_at (path ++ bs) (o bs))) rest
      ∙ or_assoc (longest (below (bs ++ (c ∷ []) ++ take more cs)) (path ++ (bs ++ (c ∷ [])) ++ cs)) (best more (bs ++ (c ∷ [])) cs) (route_at (path ++ bs) (o bs))
      ∙ simp append_assoc

  pub down_short : (more : ℕ) (bs cs : Bits) → length cs < more → down more bs cs ≡ best more bs cs
  unfolding down best
  down_short zero bs cs h = absurd (not-suc-le-zero h)
  down_short (suc more) bs [] h = refl
  down_short (suc more) bs (c ∷ cs) h = ap (λ t. or_else t (route_at (path ++ bs) (o bs))) (down_short more (bs ++ (c ∷ [])) cs (le_of_suc-le-suc h))

  -- the last level comes first
  pub best_last : (more : ℕ) (bs cs : Bits) → more ≤ length cs
      → best (suc more) bs cs ≡ or_else (route_at (path ++ (bs ++ take more cs)) (o (bs ++ take more cs))) (best more bs cs)
  unfolding best
  best_last zero bs [] h = rw append-nil (sym (or_none (route_at (path ++ bs) (o bs))))
  best_last zero bs (c ∷ cs) h = rw append-nil (sym (or_none (route_at (path ++ bs) (o bs))))
  best_last (suc more) bs [] h = absurd (not-suc-le-zero h)
  best_last (suc more) bs (c ∷ cs) h =
      ap (λ t. or_else t (route_at (path ++ bs) (o bs))) (best_last more (bs ++ (c ∷ [])) cs (le_of_suc-le-suc h))
      ∙ or_assoc (route_at (path ++ (bs ++ (c ∷ []) ++ take more cs)) (o (bs ++ (c ∷ []) ++ take more cs))) (best more (bs ++ (c ∷ [])) cs) (route_at (path ++ bs) (o bs))
      ∙ simp append_assoc

  module _ (under : (bs : Bits) → Under (path ++ bs) (below bs)) where
    pub order_longest : (more : ℕ) (bs cs : Bits) → longest (routes_of path o below more bs) (path ++ bs ++ cs) ≡ down more bs cs
    unfolding routes_of down
    order_longest zero bs cs = refl
    order_longest (suc more) bs [] =
        let p = path ++ bs in
        let xs = routes_of path o below more (bs ++ (false ∷ [])) in
        let ys = routes_of path o below more (bs ++ (true ∷ [])) in
        let u = half_under path o below under more bs false in
        let v = half_under path o below under more bs true in
        let none : longest (xs ++ ys) (p ++ []) ≡ None =
        longest_behind xs ys (p ++ []) (unmatched (p ++ (false ∷ [])) (p ++ []) xs (too_long p false) u)
        ∙ unmatched (p ++ (true ∷ [])) (p ++ []) ys (too_long p true) v in
        entry_longest p (o bs) (xs ++ ys) [] (under_append p xs ys (under_less p false xs u) (under_less p true ys v))
        ∙ ap (λ t. or_else t (route_at p (o bs))) none
    order_longest (suc more) bs (false ∷ cs) =
        let p = path ++ bs in
        let xs = routes_of path o below more (bs ++ (false ∷ [])) in
        let ys = routes_of path o below more (bs ++ (true ∷ [])) in
        let u = half_under path o below under more bs false in
        let v = half_under path o below under more bs true in
        entry_longest p (o bs) (xs ++ ys) (false ∷ cs) (under_append p xs ys (under_less p false xs u) (under_less p true ys v))
        ∙ ap (λ t. or_else t (route_at p (o bs)))
        (longest_front xs ys (p ++ (false ∷ cs)) (unmatched (p ++ (true ∷ [])) (p ++ (false ∷ cs)) ys (other_way p cs) v)
        ∙ simp append_assoc (simp append_assoc at (order_longest more (bs ++ (false ∷ [])) cs)))
    order_longest (suc more) bs (true ∷ cs) =
        let p = path ++ bs in
        let xs = routes_of path o below more (bs ++ (false ∷ [])) in
        let ys = routes_of path o below more (bs ++ (true ∷ [])) in
        let u = half_under path o below under more bs false in
        let v = half_under path o below under more bs true in
        entry_longest p (o bs) (xs ++ ys) (true ∷ cs) (under_append p xs ys (under_less p false xs u) (under_less p true ys v))
        ∙ ap (λ t. or_else t (route_at p (o bs)))
        (longest_behind xs ys (p ++ (true ∷ cs)) (unmatched (p ++ (false ∷ [])) (p ++ (true ∷ cs)) xs (way_other p cs) u)
        ∙ simp append_assoc (simp append_assoc at (order_longest more (bs ++ (true ∷ [])) cs)))
