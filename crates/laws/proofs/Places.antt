-- Where a prefix has its place in a list of routes: behind those that stand before it.
use Rattle.std.proofs.Common.{◌≡◌, ℕ, zero, suc, cond, [], ◌∷◌, ◌++◌, take, drop, Some, None, Ordering, Less, Equal, Greater, sym, refl, ap, ◌∙◌, subst, take-append-drop}
use Rattle.bits.specs.Rows.{Bits}
use Rattle.bits.specs.Order.{order, is_less, is_equal, flipped}
use Rattle.bits.proofs.Orders.{order_equal, order_flips}
use Rattle.model.specs.Routes.{Route, Routes, route, find, put, without, smallest, above, Ascending, Above}
use Rattle.laws.proofs.Routes.{find_below, above_chains}

-- every route stands before the prefix
abbrev pub Below : Bits → Routes → Type 0
Below p [] = Unit {0}
Below p (r ∷ rs) = (order r.prefix p ≡ Less) × Below p rs

pub below_push : (rs : Routes) (p : Bits) (r : Route) → Below p rs → order r.prefix p ≡ Less → Below p (rs ++ r ∷ [])
below_push [] p r b e = (e, tt)
below_push (q ∷ rs) p r b e = (b.0, below_push rs p r b.1 e)

behind : (r : Route) (p : Bits) → order r.prefix p ≡ Less → order p r.prefix ≡ Greater
behind r p e = order_flips r.prefix p ∙ ap flipped e

put_behind : (xs ys : Routes) (p : Bits) (h : ℕ) → Below p xs → put (xs ++ ys) p h ≡ xs ++ put ys p h
put_behind [] ys p h b = refl
put_behind (x ∷ xs) ys p h b = simp (behind x p b.0) (ap (λ (q : Routes). x ∷ q) (put_behind xs ys p h b.1))

find_behind : (xs ys : Routes) (p : Bits) → Below p xs → find (xs ++ ys) p ≡ find ys p
find_behind [] ys p b = refl
find_behind (x ∷ xs) ys p b = simp (behind x p b.0) (find_behind xs ys p b.1)

without_behind : (xs ys : Routes) (p : Bits) → Below p xs → without (xs ++ ys) p ≡ xs ++ without ys p
without_behind [] ys p b = refl
without_behind (x ∷ xs) ys p b = simp (behind x p b.0) (ap (λ (q : Routes). x ∷ q) (without_behind xs ys p b.1))

above_behind : (xs ys : Routes) (p : Bits) → Below p xs → above (xs ++ ys) p ≡ above ys p
above_behind [] ys p b = refl
above_behind (x ∷ xs) ys p b = simp (behind x p b.0) (above_behind xs ys p b.1)

pub above_first : (rs : Routes) (p : Bits) → Above p rs → above rs p ≡ smallest rs
above_first [] p a = refl
above_first (r ∷ rs) p a = simp a

pub without_below : (rs : Routes) (p : Bits) → Above p rs → Ascending rs → without rs p ≡ rs
without_below [] p a s = refl
without_below (r ∷ rs) p a s =
    simp a (ap (λ (q : Routes). r ∷ q) (without_below rs p (above_chains rs p r.prefix a s.0) s.1))

pub ascending_drop : (i : ℕ) (rs : Routes) → Ascending rs → Ascending (drop i rs)
ascending_drop zero rs s = s
ascending_drop (suc i) [] s = tt
ascending_drop (suc i) (r ∷ rs) s = ascending_drop i rs s.1

module _ (rs : Routes) (i : ℕ) (p : Bits) (below : Below p (take i rs)) where
  put_from : (h : ℕ) → put rs p h ≡ take i rs ++ put (drop i rs) p h
  put_from h = ap (λ (q : Routes). put q p h) (sym (take-append-drop i rs)) ∙ put_behind (take i rs) (drop i rs) p h below

  find_from : find rs p ≡ find (drop i rs) p
  find_from = ap (λ (q : Routes). find q p) (sym (take-append-drop i rs)) ∙ find_behind (take i rs) (drop i rs) p below

  without_from : without rs p ≡ take i rs ++ without (drop i rs) p
  without_from = ap (λ (q : Routes). without q p) (sym (take-append-drop i rs)) ∙ without_behind (take i rs) (drop i rs) p below

  above_from : above rs p ≡ above (drop i rs) p
  above_from = ap (λ (q : Routes). above q p) (sym (take-append-drop i rs)) ∙ above_behind (take i rs) (drop i rs) p below

  -- no route is left behind them
  pub put_end : drop i rs ≡ [] → (h : ℕ) → put rs p h ≡ take i rs ++ route p h ∷ drop i rs
  put_end e h = put_from h ∙ ap (λ (q : Routes). take i rs ++ put q p h) e ∙ ap (λ (q : Routes). take i rs ++ route p h ∷ q) (sym e)

  pub find_end : drop i rs ≡ [] → find rs p ≡ None
  find_end e = find_from ∙ ap (λ (q : Routes). find q p) e

  pub above_end : drop i rs ≡ [] → above rs p ≡ smallest (drop i rs)
  above_end e = above_from ∙ ap (λ (q : Routes). above q p) e ∙ ap smallest (sym e)

  module _ (r : Route) (qs : Routes) (at : drop i rs ≡ r ∷ qs) where
    -- the next one stands behind the prefix
    pub put_miss : order p r.prefix ≡ Less → (h : ℕ) → put rs p h ≡ take i rs ++ route p h ∷ drop i rs
    put_miss e h =
        put_from h ∙ ap (λ (q : Routes). take i rs ++ put q p h) at
        ∙ ap (λ (o : Ordering). take i rs ++ cond (is_less o) (route p h ∷ r ∷ qs) (cond (is_equal o) (route p h ∷ qs) (r ∷ put qs p h))) e
        ∙ ap (λ (q : Routes). take i rs ++ route p h ∷ q) (sym at)

    pub find_miss : order p r.prefix ≡ Less → Ascending rs → find rs p ≡ None
    find_miss e s =
        find_from ∙ ap (λ (q : Routes). find q p) at ∙ find_below (r ∷ qs) p e (subst Ascending at (ascending_drop i rs s))

    pub above_miss : order p r.prefix ≡ Less → above rs p ≡ smallest (drop i rs)
    above_miss e = above_from ∙ ap (λ (q : Routes). above q p) at ∙ above_first (r ∷ qs) p e ∙ ap smallest (sym at)

    -- the next one has the prefix
    pub put_hit : order p r.prefix ≡ Equal → (h : ℕ) → put rs p h ≡ take i rs ++ route p h ∷ qs
    put_hit e h =
        put_from h ∙ ap (λ (q : Routes). take i rs ++ put q p h) at
        ∙ ap (λ (o : Ordering). take i rs ++ cond (is_less o) (route p h ∷ r ∷ qs) (cond (is_equal o) (route p h ∷ qs) (r ∷ put qs p h))) e

    pub find_hit : order p r.prefix ≡ Equal → find rs p ≡ Some r.hop
    find_hit e =
        find_from ∙ ap (λ (q : Routes). find q p) at ∙ ap (λ (o : Ordering). cond (is_equal o) (Some r.hop) (find qs p)) e

    rest : order p r.prefix ≡ Equal → Ascending rs → Above p qs × Ascending qs
    rest e s =
        let t : Ascending (r ∷ qs) = subst Ascending at (ascending_drop i rs s) in
        (subst (λ (q : Bits). Above q qs) (sym (order_equal p r.prefix e)) t.0, t.1)

    pub above_hit : order p r.prefix ≡ Equal → Ascending rs → above rs p ≡ smallest qs
    above_hit e s =
        above_from ∙ ap (λ (q : Routes). above q p) at
        ∙ ap (λ (o : Ordering). cond (is_less o) (Some r) (above qs p)) e
        ∙ above_first qs p (rest e s).0

    pub without_hit : order p r.prefix ≡ Equal → Ascending rs → without rs p ≡ take i rs ++ qs
    without_hit e s =
        without_from ∙ ap (λ (q : Routes). take i rs ++ without q p) at
        ∙ ap (λ (o : Ordering). take i rs ++ cond (is_equal o) (without qs p) (r ∷ without qs p)) e
        ∙ ap (λ (q : Routes). take i rs ++ q) (without_below qs p (rest e s).0 (rest e s).1)
