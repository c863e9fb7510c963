-- The longest match, and the path count of a lookup.
use Rattle.std.proofs.Common.{◌≡◌, ℕ, suc, ◌+◌, ◌≤◌, Bool, true, false, leb, ◌⊎◌, List, [], ◌∷◌, length, Some, None, Option, sym, refl, ap, ◌∙◌, subst, inl, inr, ⊎_elim, arith, leb-false, leb-true}
use Rattle.bits.specs.Rows.{Bits}
use Rattle.bits.specs.Order.{begins, same}
use Rattle.bits.proofs.Orders.{holds, fails, decided, order_self, same_eq}
use Rattle.laws.specs.Matches.{LongestMatch, MatchLaws, NoMatch}
use Rattle.laws.proofs.Plans.{planned}
use Rattle.laws.proofs.Routes.{find_below}
use Rattle.laws.proofs.Bools.{and_false, and_true}
use Rattle.laws.proofs.Singles.{count_keeps, keep, keep_single, member_keep, required_single, same_length}
use Rattle.laws.proofs.Visits.{required_taken, takes, takes_single}
use Rattle.laws.proofs.Ways.{root_required}
use Rattle.model.specs.Plans.{offsets, offsets_from, plan_ok, sum}
use Rattle.model.specs.Required.{count_begins, member, path_count, required_paths}
use Rattle.model.specs.Routes.{Route, Routes, Ascending, find, longer, longest, route}

-- ---- the longest match

-- one of the routes
Among : Route → Routes → Type 0
Among r [] = ⊥
Among r (x ∷ xs) = (r ≡ x) ⊎ Among r xs

-- what is best so far: none matches, or one that matches and is no shorter than any other that does
Best : Routes → Bits → Option Route → Type 0
Best rs a None = (q : Route) → Among q rs → begins q.prefix a ≡ false
Best rs a (Some r) = Among r rs × (begins r.prefix a ≡ true) × ((q : Route) → Among q rs → begins q.prefix a ≡ true → length q.prefix ≤ length r.prefix)

not_both : (x : Bool) → x ≡ true → x ≡ false → ⊥
not_both x t f = let z : ◌≡◌ {A = ℕ} 0 1 = cc in omega arith

best_kept : (x : Route) (xs : Routes) (a : Bits) (o : Option Route) → begins x.prefix a ≡ false → Best xs a o → Best (x ∷ xs) a o
unfolding Best Among
best_kept x xs a None n b = λ q. ⊎_elim (λ (e : q ≡ x). ap (λ (r : Route). begins r.prefix a) e ∙ n) (b q)
best_kept x xs a (Some r) n b = (
  inr b.0,
  b.1,
  λ q. ⊎_elim
      (λ (e : q ≡ x) m. absurd (not_both (begins x.prefix a) (ap (λ (y : Route). begins y.prefix a) (sym e) ∙ m) n))
      (b.2 q),
)

best_with : (x : Route) (xs : Routes) (a : Bits) (o : Option Route) → begins x.prefix a ≡ true → Best xs a o → Best (x ∷ xs) a (longer x o)
unfolding Best Among
best_with x xs a None y b = (
  inl refl,
  y,
  λ q. ⊎_elim
      (λ (e : q ≡ x) m. let s = ap (λ (r : Route). length r.prefix) e in omega arith)
      (λ i m. absurd (not_both (begins q.prefix a) m (b q i))),
)
best_with x xs a (Some r) y b = elim (decided (leb (length x.prefix) (length r.prefix))) [
  | holds k ↦ simp k (
    inr b.0,
    b.1,
    λ q. ⊎_elim
        (λ (e : q ≡ x) m. let s = ap (λ (z : Route). length z.prefix) e in omega (arith, leb-true (length x.prefix) (length r.prefix) k))
        (b.2 q),
  )
  | fails k ↦ simp k (
    inl refl,
    y,
    λ q. ⊎_elim
        (λ (e : q ≡ x) m. let s = ap (λ (z : Route). length z.prefix) e in omega arith)
        (λ i m. omega (arith, b.2 q i m, leb-false (length x.prefix) (length r.prefix) k)),
  )
]

best : (rs : Routes) (a : Bits) → Best rs a (longest rs a)
unfolding Best Among
best [] a = λ q i. absurd i
best (x ∷ xs) a = elim (decided (begins x.prefix a)) [
  | holds k ↦ simp k (best_with x xs a (longest xs a) k (best xs a))
  | fails k ↦ simp k (best_kept x xs a (longest xs a) k (best xs a))
]

found_among : (rs : Routes) (p : Bits) (h : ℕ) → find rs p ≡ Some h → Among (route p h) rs
unfolding Among
found_among [] p h e = let z : ◌≡◌ {A = ℕ} 0 1 = cc in omega arith
found_among (r ∷ rs) p h e = elim (decided (same p r.prefix)) [
  | holds k ↦
      (let here : Some r.hop ≡ Some h = simp k at e in
      let hops : r.hop ≡ h = cc in
      let prefixes = same_eq p r.prefix k in
      inl (λ i. route (prefixes i) (sym hops i)))
  | fails k ↦ inr (found_among rs p h (simp k at e))
]

held_among : (rs : Routes) (r : Route) → Ascending rs → Among r rs → find rs r.prefix ≡ Some r.hop
unfolding Among
held_among [] r s i = absurd i
held_among (x ∷ rs) r s i =
    ⊎_elim
    (λ (e : r ≡ x). subst (λ (y : Route). find (x ∷ rs) y.prefix ≡ Some y.hop) (sym e) (rw (order_self x.prefix)))
    (λ j.
    let here = held_among rs r s.1 j in
    elim (decided (same r.prefix x.prefix)) [
      | holds k ↦
          (let there : find rs r.prefix ≡ None = ap (find rs) (same_eq r.prefix x.prefix k) ∙ find_below rs x.prefix s.0 s.1 in
          let z : ◌≡◌ {A = ℕ} 0 1 = cc in
          absurd (omega arith))
      | fails k ↦ simp k here
    ])
    i

found : (rs : Routes) (a : Bits) (r : Route) → Ascending rs → longest rs a ≡ Some r → LongestMatch rs a r
unfolding Best
found rs a r s e =
    let b = subst (Best rs a) e (best rs a) in
    record {
      held = held_among rs r s b.0;
      matches = b.1;
      longest = λ p h f m. b.2 (route p h) (found_among rs p h f) m;
    }

none : (rs : Routes) (a : Bits) → Ascending rs → longest rs a ≡ None → NoMatch rs a
unfolding Best
none rs a s e p h f = subst (Best rs a) e (best rs a) (route p h) (found_among rs p h f)

none_alone : (rs : Routes) (a : Bits) → Ascending rs → NoMatch rs a → longest rs a ≡ None
unfolding Best
none_alone rs a s n = by (longest rs a) refl
  where
    by : (o : Option Route) → longest rs a ≡ o → longest rs a ≡ None
    by None e = e
    by (Some r) e =
        let b = subst (Best rs a) e (best rs a) in
        absurd (not_both (begins r.prefix a) b.1 (n r.prefix r.hop (held_among rs r s b.0)))

-- ---- the path count

some_begins : (q : Bits) (xs : List Bits) (a : Bits) → member q xs ≡ true → begins q a ≡ true → 1 ≤ count_begins xs a
some_begins q [] a m b = let z : ◌≡◌ {A = ℕ} 0 1 = cc in omega arith
some_begins q (x ∷ xs) a m b = elim (decided (begins x a)) [
  | holds k ↦ simp k (omega arith)
  | fails k ↦ simp k (elim (decided (same q x)) [
    | holds j ↦ absurd (not_both (begins x a) (ap (λ (y : Bits). begins y a) (sym (same_eq q x j)) ∙ b) k)
    | fails j ↦ some_begins q xs a (simp j at m) b
  ])
]

path_has_root : (plan : List ℕ) (rs : Routes) (a : Bits) → 1 ≤ path_count plan rs a
unfolding path_count begins
path_has_root plan rs a = some_begins [] (required_paths plan rs) a (root_required plan rs) refl

keep_fewer : (f : Bits → Bool) (xs : List Bits) → length (keep f xs) ≤ length xs
unfolding keep
keep_fewer f [] = omega arith
keep_fewer f (x ∷ xs) = let rest = keep_fewer f xs in elim (decided (f x)) [ holds k ↦ simp k (omega arith) | fails k ↦ simp k (omega arith) ]

length_takes : (a : Bits) (o : ℕ) (ss : List ℕ) → length (takes a (offsets_from o ss)) ≡ length ss
unfolding takes
length_takes a o [] = refl
length_takes a o (s ∷ ss) = ap suc (length_takes a (o + s) ss)

-- the path count by the offsets: at how many of them the first bits of the address are a required path
pub path_count_takes : (a : Bits) (plan : List ℕ) (rs : Routes) → plan_ok (length a) plan ≡ true
    → path_count plan rs a ≡ length (keep (λ q. member q (required_paths plan rs)) (takes a (offsets plan)))
unfolding path_count
path_count_takes a plan rs h =
    let ok = planned (length a) plan h in
    let R = required_paths plan rs in
    let T = takes a (offsets plan) in
    let sums : 0 + sum plan ≤ suc (length a) = omega (arith, ok.total) in
    count_keeps a R
    ∙ same_length (keep (λ p. begins p a) R) (keep (λ q. member q R) T)
    (keep_single (λ p. begins p a) R (required_single plan rs))
    (keep_single (λ q. member q R) T (takes_single a plan 0 ok.range sums))
    (λ q. member_keep (λ p. begins p a) q R
    ∙ elim (decided (member q R)) [
      | holds k ↦ simp k (and_true (begins q a) ∙ sym (required_taken a plan rs q ok.some k))
      | fails k ↦ simp k (and_false (begins q a))
    ]
    ∙ sym (member_keep (λ p. member p R) q T))

path_within_plan : (plan : List ℕ) (rs : Routes) (a : Bits) → plan_ok (length a) plan ≡ true → path_count plan rs a ≤ length plan
path_within_plan plan rs a h =
    let e = path_count_takes a plan rs h in
    let f = keep_fewer (λ q. member q (required_paths plan rs)) (takes a (offsets plan)) in
    let l = length_takes a 0 plan in
    omega arith

pub match_laws : MatchLaws
match_laws =
    record { found = found; none = none; none_alone = none_alone; path_has_root = path_has_root; path_within_plan = path_within_plan }
