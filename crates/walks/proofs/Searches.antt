-- Where something is spelled below every child, the search for the smallest route above a row comes to the smallest above it that is spelled.
use Rattle.std.proofs.Common.{◌≡◌, ℕ, zero, suc, ◌+◌, ◌≤◌, Bool, true, false, cond, ◌||◌, eqb, ltb, List, [], ◌∷◌, ◌++◌, length, take, drop, Some, None, Option, sym, refl, ap, ◌∙◌, ap₂, append_assoc, append-nil, arith, length-take, length-take-le, take-append-drop, take_all, ltb-false, ltb-true}
use Rattle.bits.specs.Rows.{Bits, number}
use Rattle.bits.proofs.Orders.{holds, fails, decided}
use Rattle.laws.proofs.Longest.{or_else}
use Rattle.laws.proofs.Trees.{Under, child_routes, child_under, entry_under, here, routes_of}
use Rattle.model.specs.Nodes.{Nodes, entry, spelled, spelled_from}
use Rattle.model.specs.Outcomes.{Outcome, granted}
use Rattle.model.specs.Placements.{Placement}
use Rattle.model.specs.Routes.{Route, Routes, above}
use Rattle.walks.specs.Shows.{Shows}
use Rattle.walks.specs.Smallest.{above_from, above_of, child_behind, standing, unless_found}
use Rattle.walks.proofs.Above.{ahead, ahead_below, ahead_short, behind, entry_passed, order_above}
use Rattle.walks.proofs.Fruitful.{Agrees, Finds, Fruitful, agrees_else, deeper, finds_of, follow, level_agrees, smallest_comes}
use Rattle.walks.proofs.Smallest.{shows_fruitful, shows_spells}

-- ---- the children that stand in a node

child_under_row : (nodes : Nodes) (ss : List ℕ) (n : ℕ) (bs : Bits) → Under bs (child_behind nodes ss n bs)
unfolding Under
child_under_row nodes [] n bs = tt
child_under_row nodes (t ∷ ts) n bs = elim (decided (eqb (nodes.child n (number bs)) 0)) [
  | holds e ↦ simp e tt
  | fails e ↦ simp e (entry_under bs (Some (nodes.child n (number bs))))
]

child_passed : (nodes : Nodes) (ss : List ℕ) (n : ℕ) (bs : Bits) → above (child_behind nodes ss n bs) bs ≡ None
child_passed nodes [] n bs = refl
child_passed nodes (t ∷ ts) n bs =
    let c = nodes.child n (number bs) in
    elim (decided (eqb c 0)) [
      | holds e ↦ simp e
      | fails e ↦ simp e (ap (above (entry bs (Some c))) (sym (append-nil bs)) ∙ entry_passed bs (Some c) [])
    ]

-- ---- within a node

module _ (nodes : Nodes) (s : ℕ) (ss : List ℕ) (n : ℕ) (path : Bits) where
  abbrev children : Bits → Routes
  children = child_behind nodes ss n

  abbrev below : Bits → Routes
  below = child_routes nodes ss n path

  -- what stands above a row stands behind it
  stand_above : (bs : Bits) → length bs ≤ s → above (standing nodes ss n s) bs ≡ behind [] (here nodes n) children s [] bs
  unfolding here routes_of
  stand_above bs short =
      let o = here nodes n in
      let none : ahead [] o children s [] bs ≡ None = elim (decided (ltb (length bs) s)) [
        | holds e ↦ ahead_short [] o children s [] bs (ltb-true (length bs) s e)
        | fails e ↦
            ahead_below [] o children s [] bs (ltb-false (length bs) s e)
            ∙ ap (λ (x : Bits). above (children x) bs) (take_all s bs short)
            ∙ child_passed nodes ss n bs
      ] in
      order_above [] o children (child_under_row nodes ss n) s [] bs ∙ ap (λ t. or_else t (behind [] o children s [] bs)) none

  module _ (finds : Finds nodes s ss n path) where
    abbrev f : Option Route → Outcome (Option Route)
    f = follow nodes s ss n path

    behind_agrees : (more : ℕ) (bs cs : Bits) → length bs + more ≡ s
        → Agrees f (behind [] (here nodes n) children more bs (take more cs)) (behind path (here nodes n) below more bs cs)
    unfolding behind
    behind_agrees zero bs cs size = record { comes = refl; alike = refl }
    behind_agrees (suc more) bs [] size =
        let half = λ (b : Bool). level_agrees nodes s ss n path finds more (bs ++ (b ∷ [])) (deeper bs b more s size) in
        agrees_else f _ _ _ _ (half false) (half true)
    behind_agrees (suc more) bs (false ∷ cs) size =
        agrees_else f _ _ _ _ (behind_agrees more (bs ++ (false ∷ [])) cs (deeper bs false more s size))
        (level_agrees nodes s ss n path finds more (bs ++ (true ∷ [])) (deeper bs true more s size))
    behind_agrees (suc more) bs (true ∷ cs) size = behind_agrees more (bs ++ (true ∷ [])) cs (deeper bs true more s size)

-- ---- from node to node

first_found : (b a : Option Route) → unless_found (granted b) (granted a) ≡ granted (or_else b a)
first_found None a = refl
first_found (Some r) a = refl

module _ (nodes : Nodes) where
  abbrev ComesAbove : List ℕ → ℕ → Bits → Bits → Type 0
  ComesAbove ss n path bs = above_from nodes ss n path bs ≡ granted (above (spelled_from nodes ss n path) (path ++ bs))

  below_comes : (s : ℕ) (ss : List ℕ) (n : ℕ) (path bs : Bits) → Fruitful nodes (s ∷ ss) n path
      → ((c : ℕ) (q : Bits) → Fruitful nodes ss c q → ComesAbove ss c q (drop s bs))
      → cond (ltb (length bs) s || eqb (nodes.child n (number (take s bs))) 0) (granted None)
      (above_from nodes ss (nodes.child n (number (take s bs))) (path ++ take s bs) (drop s bs))
      ≡ granted (ahead path (here nodes n) (child_routes nodes ss n path) s [] bs)
  unfolding Fruitful child_routes
  below_comes s ss n path bs fruit comes =
      let o = here nodes n in
      let down = child_routes nodes ss n path in
      elim (decided (ltb (length bs) s)) [
        | holds e ↦ simp e (ap granted (sym (ahead_short path o down s [] bs (ltb-true (length bs) s e))))
        | fails e ↦
            (let far = ltb-false (length bs) s e in
            let x = take s bs in
            let c = nodes.child n (number x) in
            let parts : path ++ x ++ drop s bs ≡ path ++ [] ++ bs =
            append_assoc path x (drop s bs) ∙ ap₂ (λ (p q : Bits). p ++ q) (sym (append-nil path)) (take-append-drop s bs) in
            let there = ahead_below path o down s [] bs far in
            elim (decided (eqb c 0)) [
              | holds k ↦ simp (e, k) (ap granted (sym (there ∙ simp k)))
              | fails k ↦
                  (let more = fruit.1 x (length-take-le s bs far) k in
                  simp (e, k)
                  (comes c (path ++ x) more.1
                  ∙ ap (λ (p : Bits). granted (above (spelled_from nodes ss c (path ++ x)) p)) parts
                  ∙ ap granted (sym (there ∙ simp k))))
            ])
      ]

  above_comes : (ss : List ℕ) (n : ℕ) (path bs : Bits) → Fruitful nodes ss n path → ComesAbove ss n path bs
  unfolding Fruitful child_routes here routes_of
  above_comes [] n path bs fruit = refl
  above_comes (s ∷ ss) n path bs fruit =
      let o = here nodes n in
      let down = child_routes nodes ss n path in
      let x = take s bs in
      let size = length-take s bs in
      let within : length x ≤ s = omega arith in
      let finds = finds_of nodes s ss n path fruit (smallest_comes nodes ss) in
      let next : follow nodes s ss n path (above (standing nodes ss n s) x) ≡ granted (behind path o down s [] bs) =
      ap (follow nodes s ss n path) (stand_above nodes s ss n path x within)
      ∙ (behind_agrees nodes s ss n path finds s [] bs (omega arith)).comes in
      let first = below_comes s ss n path bs fruit (λ c q h. above_comes ss c q (drop s bs) h) in
      let all : above (spelled_from nodes (s ∷ ss) n path) (path ++ bs) ≡ or_else (ahead path o down s [] bs) (behind path o down s [] bs) =
      ap (λ (p : Bits). above (spelled_from nodes (s ∷ ss) n path) (p ++ bs)) (sym (append-nil path))
      ∙ order_above path o down (child_under nodes ss n path) s [] bs in
      simp fruit.0
      (ap₂ unless_found first next
      ∙ first_found (ahead path o down s [] bs) (behind path o down s [] bs)
      ∙ ap granted (sym all))

-- ---- in a table

module _ (W : ℕ) (nodes : Nodes) (plan : List ℕ) (routes : Routes) (at : Placement) (p : Bits) where
  pub above_shown : Shows W nodes plan routes at → above_of nodes plan p ≡ granted (above routes p)
  unfolding above_of spelled
  above_shown shows =
      above_comes nodes plan 0 [] p (shows_fruitful W nodes plan routes at shows)
      ∙ ap (λ (rs : Routes). granted (above rs p)) (shows_spells W nodes plan routes at shows)
