-- Laws of the ascending list of routes.
use Rattle.std.proofs.Common.{◌≡◌, ℕ, false, [], ◌∷◌, Some, None, Less, Greater, sym, refl, ap, ◌∙◌, subst, arith}
use Rattle.bits.specs.Rows.{Bits}
use Rattle.bits.specs.Order.{order, is_equal, flipped}
use Rattle.model.specs.Routes.{Route, Routes, route, find, put, without, Ascending, Above}
use Rattle.laws.specs.Lists.{RouteLaws}
use Rattle.bits.proofs.Orders.{order_self, order_equal, order_flips, order_chains, less, equal, greater, compared}

pub find_put : (rs : Routes) (p : Bits) (h : ℕ) → find (put rs p h) p ≡ Some h
find_put [] p h = rw order_self
find_put (r ∷ rs) p h = elim (compared p r.prefix) [
  | less e ↦ simp (e, order_self)
  | equal e ↦ simp (e, order_self)
  | greater e ↦ simp e (find_put rs p h)
]

pub find_put_other : (rs : Routes) (p q : Bits) (h : ℕ) → is_equal (order q p) ≡ false → find (put rs p h) q ≡ find rs q
find_put_other [] p q h n = simp n
find_put_other (r ∷ rs) p q h n = elim (compared p r.prefix) [
  | less e ↦ simp (e, n)
  | equal e ↦ simp (e, n, ← order_equal p r.prefix e)
  | greater e ↦ simp (e, find_put_other rs p q h n)
]

pub find_without : (rs : Routes) (p : Bits) → find (without rs p) p ≡ None
find_without [] p = refl
find_without (r ∷ rs) p = elim (compared p r.prefix) [
  | less e ↦ simp e (find_without rs p)
  | equal e ↦ simp e (find_without rs p)
  | greater e ↦ simp e (find_without rs p)
]

pub find_without_other : (rs : Routes) (p q : Bits) → is_equal (order q p) ≡ false → find (without rs p) q ≡ find rs q
find_without_other [] p q n = refl
find_without_other (r ∷ rs) p q n = elim (compared p r.prefix) [
  | less e ↦ simp (e, find_without_other rs p q n)
  | equal e ↦ simp (e, find_without_other rs p q n, n, ← order_equal p r.prefix e)
  | greater e ↦ simp (e, find_without_other rs p q n)
]

-- what is above the first prefix is above whatever stands before that
pub above_chains : (rs : Routes) (p q : Bits) → order p q ≡ Less → Above q rs → Above p rs
above_chains [] p q e a = tt
above_chains (r ∷ rs) p q e a = order_chains p q r.prefix e a

turned : (p q : Bits) → order p q ≡ Greater → order q p ≡ Less
turned p q e = order_flips p q ∙ ap flipped e

pub find_below : (rs : Routes) (p : Bits) → Above p rs → Ascending rs → find rs p ≡ None
find_below [] p a s = refl
find_below (r ∷ rs) p a s = simp a (find_below rs p (above_chains rs p r.prefix a s.0) s.1)

put_above : (rs : Routes) (q p : Bits) (h : ℕ) → order q p ≡ Less → Above q rs → Above q (put rs p h)
put_above [] q p h e a = e
put_above (r ∷ rs) q p h e a = elim (compared p r.prefix) [ less k ↦ simp k e | equal k ↦ simp k e | greater k ↦ simp k a ]

pub put_ascends : (rs : Routes) (p : Bits) (h : ℕ) → Ascending rs → Ascending (put rs p h)
put_ascends [] p h s = (tt, tt)
put_ascends (r ∷ rs) p h s = elim (compared p r.prefix) [
  | less e ↦ simp e (refl, s)
  | equal e ↦ simp e (subst (λ (x : Bits). Above x rs) (sym (order_equal p r.prefix e)) s.0, s.1)
  | greater e ↦ simp e (put_above rs r.prefix p h (turned p r.prefix e) s.0, put_ascends rs p h s.1)
]

without_above : (rs : Routes) (q p : Bits) → Above q rs → Ascending rs → Above q (without rs p)
without_above [] q p a s = tt
without_above (r ∷ rs) q p a s = elim (compared p r.prefix) [
  | less e ↦ simp e a
  | equal e ↦ simp e (without_above rs q p (above_chains rs q r.prefix a s.0) s.1)
  | greater e ↦ simp e a
]

pub without_ascends : (rs : Routes) (p : Bits) → Ascending rs → Ascending (without rs p)
without_ascends [] p s = tt
without_ascends (r ∷ rs) p s =
    let rest : Ascending (without rs p) = without_ascends rs p s.1 in
    let first : Above r.prefix (without rs p) = without_above rs r.prefix p s.0 s.1 in
    elim (compared p r.prefix) [ less e ↦ simp e (first, rest) | equal e ↦ simp e rest | greater e ↦ simp e (first, rest) ]

-- the head of one list is not in the other if it stands before that one's head
apart : (r q : Route) (rs qs : Routes) → Ascending (q ∷ qs) → order r.prefix q.prefix ≡ Less
    → ((p : Bits) → find (r ∷ rs) p ≡ find (q ∷ qs) p) → ⊥
apart r q rs qs s e h =
    let here = simp order_self at (h r.prefix) in
    let there = find_below (q ∷ qs) r.prefix e s in
    let z : ◌≡◌ {A = ℕ} 0 1 = cc in
    omega arith

-- the lists behind two equal heads find the same
behind : (r q : Route) (rs qs : Routes) → Ascending (r ∷ rs) → Ascending (q ∷ qs) → r.prefix ≡ q.prefix
    → ((p : Bits) → find (r ∷ rs) p ≡ find (q ∷ qs) p) → (p : Bits) → find rs p ≡ find qs p
behind r q rs qs s t e h p = elim (compared p r.prefix) [
  | less k ↦ simp (← e, k) at (h p)
  | equal k ↦
      (let i = order_equal p r.prefix k in
      subst (λ (x : Bits). find rs x ≡ find qs x) (sym i)
      (find_below rs r.prefix s.0 s.1 ∙ sym (find_below qs r.prefix (subst (λ (x : Bits). Above x qs) (sym e) t.0) t.1)))
  | greater k ↦ simp (← e, k) at (h p)
]

pub unique : (rs qs : Routes) → Ascending rs → Ascending qs → ((p : Bits) → find rs p ≡ find qs p) → rs ≡ qs
unique [] [] s t h = refl
unique [] (q ∷ qs) s t h = let here = simp order_self at (h q.prefix) in cc
unique (r ∷ rs) [] s t h = let here = simp order_self at (h r.prefix) in cc
unique (r ∷ rs) (q ∷ qs) s t h = elim (compared r.prefix q.prefix) [
  | less e ↦ absurd (apart r q rs qs t e h)
  | equal e ↦
      (let same-prefix = order_equal r.prefix q.prefix e in
      let same-hop : Some r.hop ≡ Some q.hop = simp (← same-prefix, order_self) at (h r.prefix) in
      let same_rest = unique rs qs s.1 t.1 (behind r q rs qs s t same-prefix h) in
      let hops : r.hop ≡ q.hop = cc in
      λ i. route (same-prefix i) (hops i) ∷ same_rest i)
  | greater e ↦ absurd (apart q r qs rs s (turned r.prefix q.prefix e) (λ p. sym (h p)))
]

pub route_laws : RouteLaws
route_laws =
    record {
      put_in = find_put;
      put_leaves = find_put_other;
      put_ascends = put_ascends;
      taken_out = find_without;
      without_leaves = find_without_other;
      without_ascends = without_ascends;
      alone = unique;
    }
