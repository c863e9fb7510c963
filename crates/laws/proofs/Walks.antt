-- On any nodes, the walk finds the longest match among the routes that the tree spells.
use Rattle.std.proofs.Common.{◌≡◌, ℕ, zero, suc, ◌+◌, ◌-◌, ◌*◌, ◌/◌, ◌^◌, ◌<◌, ◌≤◌, min, Bool, true, false, cond, eqb, leb, List, [], ◌∷◌, ◌++◌, length, get_or, take, drop, replicate, Some, None, Option, sym, refl, ap, ◌∙◌, ap₂, append-nil, le_of_suc-le-suc, mul_assoc, add-mul, pow-suc, add-one, arith, lit<, length-append, length-drop, take-append-drop, length-take-le, take-suc, take-add, leb-false, leb-true}
use lib.Arith.{digits_div}
use lib.Seq.{take-append-le}
use Rattle.bits.specs.Rows.{Bits, bit, read_group, number}
use Rattle.model.specs.Nodes.{Nodes, Walk, deepest, marked, noted, spelled, spelled_from, visited, walk, walk_from}
use Rattle.model.specs.Places.{position}
use Rattle.model.specs.Plans.{in_range, plan_ok, sum}
use Rattle.model.specs.Routes.{Route, Routes, longest, route}
use Rattle.laws.proofs.Plans.{planned, ranged, sum_none}
use Rattle.laws.proofs.Longest.{best, best_last, down, down_below, down_short, or_assoc, or_else, or_none, order_longest}
use Rattle.bits.proofs.Orders.{holds, fails, decided}
use Rattle.laws.proofs.Trees.{child_routes, child_under, here, routes_of}

-- ---- half of a position is that of the row without its last bit

number_push : (p : Bits) (b : Bool) → number (p ++ (b ∷ [])) ≡ number p * 2 + bit b
unfolding number
number_push [] b = omega arith
number_push (x ∷ p) b =
    let longer : length (p ++ (b ∷ [])) ≡ suc (length p) = length-append p (b ∷ []) ∙ add-one (length p) in
    ap₂ (λ k y. bit x * 2 ^ k + y) longer (number_push p b)
    ∙ ap (λ y. bit x * y + (number p * 2 + bit b)) (pow-suc 2 (length p))
    ∙ (let m = mul_assoc (bit x) (2 ^ length p) 2 in let d = add-mul (bit x * 2 ^ length p) (number p) 2 in omega arith)

bit_lt : (b : Bool) → bit b < 2
bit_lt true = lit< tt
bit_lt false = lit< tt

halves : (p : Bits) (b : Bool) → position (p ++ (b ∷ [])) / 2 ≡ position p
halves p b =
    let longer : length (p ++ (b ∷ [])) ≡ suc (length p) = length-append p (b ∷ []) ∙ add-one (length p) in
    let power : 2 ^ length (p ++ (b ∷ [])) ≡ 2 ^ length p * 2 = ap (λ k. 2 ^ k) longer ∙ pow-suc 2 (length p) in
    let sums : position (p ++ (b ∷ [])) ≡ (2 ^ length p + number p) * 2 + bit b = let n = number_push p b in omega arith in
    ap (λ x. x / 2) sums ∙ digits_div (2 ^ length p + number p) (bit_lt b)

-- ---- what a read-group reads within the row

pub group_inside : (a : Bits) (off r : ℕ) → r ≤ 6 → r ≤ length (drop off a) → read_group a off r ≡ number (take r (drop off a))
unfolding read_group
group_inside a off r s h =
    let small : min r 6 ≡ r = omega arith in
    rw small (ap number (take-append-le r (drop off a) (replicate r false) h))

position_inside : (a : Bits) (off r : ℕ) → r ≤ 6 → r ≤ length (drop off a) → 2 ^ r + read_group a off r ≡ position (take r (drop off a))
position_inside a off r s h =
    ap₂ (λ k y. 2 ^ k + y) (sym (length-take-le r (drop off a) h)) (group_inside a off r s h)

-- i is the position of all next bits but the last, of r
At : ℕ → ℕ → Bits → Type 0
At zero i cs = Unit {0}
At (suc r) i cs = i ≡ position (take r cs)

halve_at : (r i : ℕ) (cs : Bits) → r ≤ length cs → At (suc r) i cs → At r (i / 2) cs
unfolding At
halve_at zero i cs h e = tt
halve_at (suc r) i cs h e =
    ap (λ x. x / 2) (e ∙ ap position (take-suc cs r false h)) ∙ halves (take r cs) (get_or cs r false)

module _ (nodes : Nodes) (a : Bits) (off n : ℕ) (below : Bits → Routes) (f : Option Route) where
  noted_best : (r i : ℕ) → r ≤ 6 → r ≤ suc (length (drop off a)) → At r i (drop off a)
      → noted nodes n off a (deepest (nodes.bitmap n) r i) f ≡ or_else (best (take off a) (here nodes n) below r [] (drop off a)) f
  unfolding At best here
  noted_best zero i s h e = refl
  noted_best (suc r) i s h e =
      let cs = drop off a in
      let last = best_last (take off a) (here nodes n) below r [] cs (le_of_suc-le-suc h) in
      let rest = noted_best r (i / 2) (omega arith) (omega arith) (halve_at r i cs (le_of_suc-le-suc h) e) in
      let place : 2 ^ r + read_group a off r ≡ position (take r cs) = position_inside a off r (omega arith) (le_of_suc-le-suc h) in
      elim (decided (marked (nodes.bitmap n) (position (take r cs)))) [
        | holds k ↦ simp (last, e, k) (ap₂ (λ x y. Some (route x (nodes.hop n y))) (take-add off r a) place)
        | fails k ↦ simp (last, e, k) (simp e at rest)
      ]

-- ---- the walk

module _ (nodes : Nodes) (a : Bits) where
  whole : (off : ℕ) → take off a ++ [] ++ drop off a ≡ a
  whole off = rw append-nil (take-append-drop off a)

  -- what stands in the node at an offset and below it
  node_longest : (s : ℕ) (ss : List ℕ) (off n : ℕ)
      → longest (spelled_from nodes (s ∷ ss) n (take off a)) a ≡ down (take off a) (here nodes n) (child_routes nodes ss n (take off a)) s [] (drop off a)
  unfolding here child_routes routes_of
  node_longest s ss off n =
      let path = take off a in
      ap (longest (spelled_from nodes (s ∷ ss) n path)) (sym (whole off))
      ∙ order_longest path (here nodes n) (child_routes nodes ss n path) (child_under nodes ss n path) s [] (drop off a)

  first_position : (r off : ℕ) → r ≤ 6 → r ≤ length (drop off a) → At (suc r) (2 ^ (suc r - 1) + read_group a off (suc r - 1)) (drop off a)
  unfolding At
  first_position r off s h =
      let less_one : suc r - 1 ≡ r = omega arith in
      rw less_one (position_inside a off r s h)

  found_of : (t : Bool) (h : Option Route) (w : Walk) → (visited (cond t (record { found = h; visits = 0 }) w)).found ≡ cond t h w.found
  found_of true h w = refl
  found_of false h w = refl

  same_both : (t : Bool) (x y : Option Route) → x ≡ y → cond t y x ≡ y
  same_both true x y e = refl
  same_both false x y e = e

  walk_finds : (ss : List ℕ) (off n : ℕ) (f : Option Route) → in_range ss ≡ true → off + sum ss ≤ suc (length a)
      → (walk_from nodes ss a off n f).found ≡ or_else (longest (spelled_from nodes ss n (take off a)) a) f
  unfolding child_routes
  walk_finds [] off n f g h = refl
  walk_finds (zero ∷ ss) off n f g h = cc
  walk_finds (suc r ∷ ss) off n f g h =
      let range = ranged (suc r) ss g in
      let left = length-drop off a in
      let cs = drop off a in
      let path = take off a in
      let below = child_routes nodes ss n path in
      let i = 2 ^ (suc r - 1) + read_group a off (suc r - 1) in
      let match = noted nodes n off a (deepest (nodes.bitmap n) (suc r) i) f in
      let found_Here = best path (here nodes n) below (suc r) [] cs in
      let node : match ≡ or_else found_Here f =
      noted_best nodes a off n below f (suc r) i range.high (omega arith) (first_position r off (omega arith) (omega arith)) in
      let c = nodes.child n (read_group a off (suc r)) in
      let go = walk_from nodes ss a (off + suc r) c match in
      let spells = node_longest (suc r) ss off n in
      found_of (eqb c 0) match go
      ∙ elim (decided (leb (suc r) (length cs))) [
        | holds e ↦
            (let inside = leb-true (suc r) (length cs) e in
            let same-group = group_inside a off (suc r) range.high inside in
            let d = nodes.child n (number (take (suc r) cs)) in
            let same-child : c ≡ d = ap (nodes.child n) same-group in
            let step : cond (eqb c 0) match go.found ≡ or_else (longest (below (take (suc r) cs)) a) match =
            elim (decided (eqb d 0)) [
              | holds k ↦ simp (same-child, k)
              | fails k ↦ simp (same-child, k)
                  (walk_finds ss (off + suc r) d match range.rest (omega arith)
                  ∙ ap (λ (x : Bits). or_else (longest (spelled_from nodes ss d x) a) match) (take-add off (suc r) a))
            ] in
            step
            ∙ ap (or_else (longest (below (take (suc r) cs)) a)) node
            ∙ sym (or_assoc (longest (below (take (suc r) cs)) a) found_Here f)
            ∙ sym (ap (λ x. or_else x f) (spells ∙ down_below path (here nodes n) below (suc r) [] cs inside
            ∙ ap (λ (x : Bits). or_else (longest (below (take (suc r) cs)) x) found_Here) (whole off))))
        | fails e ↦
            (let outside = leb-false (suc r) (length cs) e in
            let last : ss ≡ [] = sum_none ss range.rest (omega arith) in
            same_both (eqb c 0) go.found match (ap (λ (l : List ℕ). (walk_from nodes l a (off + suc r) c match).found) last)
            ∙ node
            ∙ sym (ap (λ x. or_else x f) (spells ∙ down_short path (here nodes n) below (suc r) [] cs outside)))
      ]

pub walk_longest : (nodes : Nodes) (plan : List ℕ) (a : Bits) → plan_ok (length a) plan ≡ true → (walk nodes plan a).found ≡ longest (spelled nodes plan) a
unfolding walk spelled plan_ok
walk_longest nodes plan a h =
    let ok = planned (length a) plan h in
    walk_finds nodes a plan 0 0 None ok.range (omega (arith, ok.total))
    ∙ or_none (longest (spelled_from nodes plan 0 []) a)
