-- How many nodes a route more requires, told by the route before it alone, as the routes ascend.
use Rattle.std.proofs.Common.{◌≡◌, ℕ, ◌+◌, ◌≤◌, Bool, true, false, not, ◌&&◌, ◌||◌, eqb, leb, List, [], ◌∷◌, ◌++◌, length, take, Some, Less, sym, refl, ap, ◌∙◌, arith, length-take-le, le-leb, leb-true}
use Rattle.std.proofs.lemmas.Bool.{and_from, and_parts, or_left}
use Rattle.std.specs.Option.{option_to_list}
use Rattle.bits.specs.Rows.{Bits}
use Rattle.bits.specs.Order.{begins, order}
use Rattle.bits.proofs.Orders.{holds, fails, decided, order_chains}
use Rattle.bits.proofs.Prefixes.{begins_front, begins_take}
use Rattle.laws.specs.Counts.{count, missing, shared}
use Rattle.laws.proofs.Counts.{newly_counted}
use Rattle.laws.proofs.Loads.{put_behind}
use Rattle.laws.proofs.Paths.{put_requires}
use Rattle.model.specs.Plans.{offsets, plan_ok}
use Rattle.model.specs.Required.{distinct, fresh, required, required_paths, way}
use Rattle.model.specs.Routes.{Ascending, Route, Routes, put}
use Rattle.sheets.specs.Held.{last_of}

-- a row between two that begin with some bits begins with them
begins_between : (q x y z : Bits) → begins q x ≡ true → begins q z ≡ true → order x y ≡ Less → order y z ≡ Less → begins q y ≡ true
unfolding begins order
begins_between [] x y z f g e k = refl
begins_between (b ∷ q) [] y z f g e k = cc
begins_between (b ∷ q) (c ∷ x) [] z f g e k = cc
begins_between (b ∷ q) (c ∷ x) (d ∷ y) [] f g e k = cc
begins_between (false ∷ q) (true ∷ x) (d ∷ y) (c ∷ z) f g e k = cc
begins_between (true ∷ q) (false ∷ x) (d ∷ y) (c ∷ z) f g e k = cc
begins_between (false ∷ q) (false ∷ x) (d ∷ y) (true ∷ z) f g e k = cc
begins_between (true ∷ q) (true ∷ x) (d ∷ y) (false ∷ z) f g e k = cc
begins_between (false ∷ q) (false ∷ x) (false ∷ y) (false ∷ z) f g e k = begins_between q x y z f g e k
begins_between (false ∷ q) (false ∷ x) (true ∷ y) (false ∷ z) f g e k = cc
begins_between (true ∷ q) (true ∷ x) (false ∷ y) (true ∷ z) f g e k = cc
begins_between (true ∷ q) (true ∷ x) (true ∷ y) (true ∷ z) f g e k = begins_between q x y z f g e k

-- and is no shorter than they
begins_long : (q y : Bits) → begins q y ≡ true → length q ≤ length y
unfolding begins
begins_long [] y h = omega arith
begins_long (b ∷ q) [] h = cc
begins_long (false ∷ q) (false ∷ y) h = let l = begins_long q y h in omega arith
begins_long (false ∷ q) (true ∷ y) h = cc
begins_long (true ∷ q) (false ∷ y) h = cc
begins_long (true ∷ q) (true ∷ y) h = let l = begins_long q y h in omega arith

-- the first of ascending routes stands before the last
first_last : (x : Route) (rs : Routes) (r : Route) → Ascending (x ∷ (rs ++ (r ∷ []))) → order x.prefix r.prefix ≡ Less
first_last x [] r s = s.0
first_last x (y ∷ rs) r s = order_chains x.prefix y.prefix r.prefix s.0 (first_last y rs r s.1)

module _ (a : Bits) (o : ℕ) (inside : o ≤ length a) (r : Route) (onward : begins (take o a) r.prefix ≡ true) where
  -- what one of the routes before shares with a route, the last of them shares
  shared_last : (rs : Routes) → Ascending (rs ++ (r ∷ [])) → shared rs a o ≡ shared (option_to_list (last_of rs)) a o
  shared_last [] s = refl
  shared_last (x ∷ []) s = refl
  shared_last (x ∷ y ∷ rs) s =
      let rest = shared_last (y ∷ rs) s.1 in
      elim (decided (leb o (length x.prefix) && begins (take o a) x.prefix)) [
        | holds e ↦
            (let parts = and_parts (leb o (length x.prefix)) (begins (take o a) x.prefix) e in
            let next = begins_between (take o a) x.prefix y.prefix r.prefix parts.1 onward s.0 (first_last y rs r s.1) in
            let size = length-take-le o a inside in
            let long = begins_long (take o a) y.prefix next in
            let also = or_left (leb o (length y.prefix) && begins (take o a) y.prefix) (shared rs a o)
            (and_from (leb o (length y.prefix)) (begins (take o a) y.prefix) (le-leb o (length y.prefix) (omega arith)) next) in
            ap (λ (t : Bool). t || shared (y ∷ rs) a o) e ∙ sym also ∙ rest)
        | fails e ↦ ap (λ (t : Bool). t || shared (y ∷ rs) a o) e ∙ rest
      ]

-- tests that agree count the same
count_alike : (f g : ℕ → Bool) → ((o : ℕ) → f o ≡ g o) → (os : List ℕ) → count f os ≡ count g os
count_alike f g h [] = refl
count_alike f g h (o ∷ os) = simp (h o, count_alike f g h os)

-- a route behind ascending ones, its prefix so many bits of an address
module _ (rs : Routes) (r : Route) (s : Ascending (rs ++ (r ∷ []))) (a : Bits) (len : ℕ) (short : len ≤ length a) (is : r.prefix ≡ take len a) where
  missing_last : (o : ℕ) → missing rs a len o ≡ missing (option_to_list (last_of rs)) a len o
  missing_last o = elim (decided (leb o len)) [
    | holds e ↦
        (let low = leb-true o len e in
        let inside : o ≤ length a = omega arith in
        let size = length-take-le o a inside in
        let onward : begins (take o a) r.prefix ≡ true =
        ap (begins (take o a)) is ∙ begins_take (take o a) a len (omega arith) ∙ begins_front o a in
        ap (λ (t : Bool). leb o len && not (eqb o 0 || t)) (shared_last a o inside r onward rs s))
    | fails e ↦ simp e
  ]

  pub missing_behind : (os : List ℕ) → count (missing rs a len) os ≡ count (missing (option_to_list (last_of rs)) a len) os
  missing_behind os = count_alike (missing rs a len) (missing (option_to_list (last_of rs)) a len) missing_last os

  pub required_behind : (plan : List ℕ) → plan_ok (length a) plan ≡ true
      → required plan (rs ++ (r ∷ [])) ≡ required plan rs + count (missing (option_to_list (last_of rs)) a len) (offsets plan)
  required_behind plan ok =
      let behind : put rs r.prefix r.hop ≡ rs ++ (r ∷ []) = put_behind rs (r ∷ []) s in
      ap (required plan) (sym behind)
      ∙ put_requires plan rs r.prefix r.hop
      ∙ ap (λ (p : Bits). required plan rs + length (distinct (fresh (way (offsets plan) p) (required_paths plan rs)))) is
      ∙ ap (λ (n : ℕ). required plan rs + n) (newly_counted a len plan rs ok short ∙ missing_behind (offsets plan))

-- a route put behind others is the last of them
pub last_behind : (rs : Routes) (r : Route) → last_of (rs ++ (r ∷ [])) ≡ Some r
last_behind [] r = refl
last_behind (x ∷ []) r = refl
last_behind (x ∷ y ∷ rs) r = last_behind (y ∷ rs) r
