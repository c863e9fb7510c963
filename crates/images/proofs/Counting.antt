-- How many routes there can be: each has a node and a position of its own.
use Rattle.std.proofs.Common.{◌≡◌, ℕ, ◌+◌, ◌*◌, ◌/◌, ◌<◌, ◌≤◌, true, false, eqb, List, [], ◌∷◌, ◌++◌, length, map, drop, Less, Equal, take-append-drop, sym, ap, ◌∙◌, ap₂, subst, arith}
use Rattle.std.proofs.lemmas.List.{length-map}
use Rattle.std.proofs.lemmas.Bool.{eqb-true, ne_eqb}
use Rattle.std.proofs.lemmas.Map.Steps.{length-le_from_distinct_below}
use Rattle.std.specs.List.{AllByRecursion, IsDistinct, list_any}
use lib.Arith.{digits_div}
use Rattle.bits.specs.Rows.{Bits}
use Rattle.bits.specs.Order.{order}
use Rattle.bits.proofs.Orders.{holds, fails, decided, order_chains, order_self}
use Rattle.images.proofs.Strides.{position_within}
use Rattle.images.proofs.Ways.{on_way}
use Rattle.laws.specs.Lists.{Holdable}
use Rattle.laws.proofs.ImageNodes.{own_node}
use Rattle.laws.proofs.Positions.{position_same}
use Rattle.laws.proofs.Ranges.{node_below}
use Rattle.laws.proofs.Ways.{Held, held_first, held_more, held_short, way_required}
use Rattle.model.specs.Places.{level, path_to, position_of}
use Rattle.model.specs.Placements.{Placement, SoundPlacement, node_at}
use Rattle.model.specs.Plans.{offset}
use Rattle.model.specs.Required.{member, required_paths}
use Rattle.model.specs.Routes.{Above, Ascending, Routes}

module _ (W N : ℕ) (plan : List ℕ) (routes : Routes) (at : Placement) (can : Holdable W plan routes) (sound : SoundPlacement N plan routes at) where
  -- a number for each place of a tree
  code : Bits → ℕ
  code p = node_at at.used (path_to plan p) * 64 + position_of plan p

  short : (p : Bits) → Held routes p → length p ≤ W
  short p h = held_short W routes p can.ranged h

  place : (p : Bits) → Held routes p → (1 ≤ position_of plan p) × (position_of plan p < 64)
  place p h = position_within W plan p can.planned (short p h)

  code_below : (p : Bits) → Held routes p → code p < N * 64
  unfolding code
  code_below p h =
      let n = node_below W N plan routes at can sound (path_to plan p) in
      let j = (place p h).1 in
      omega arith

  required_there : (p : Bits) → Held routes p → member (path_to plan p) (required_paths plan routes) ≡ true
  required_there p h = way_required plan routes p (path_to plan p) h (on_way W plan can.planned p (short p h))

  -- two prefixes at one place are one
  code_alone : (p q : Bits) → Held routes p → Held routes q → code p ≡ code q → p ≡ q
  unfolding code
  code_alone p q h k e =
      let node : node_at at.used (path_to plan p) ≡ node_at at.used (path_to plan q) =
      sym (digits_div (node_at at.used (path_to plan p)) (place p h).1) ∙ ap (λ x. x / 64) e ∙ digits_div (node_at at.used (path_to plan q)) (place q k).1 in
      let spot : position_of plan p ≡ position_of plan q = (let n = node in omega arith) in
      let path : path_to plan p ≡ path_to plan q =
      own_node N plan routes at sound (path_to plan p) (path_to plan q) (required_there p h) (required_there q k) node in
      let rest : drop (offset plan (level plan (length p))) p ≡ drop (offset plan (level plan (length q))) q =
      position_same (drop (offset plan (level plan (length p))) p) (drop (offset plan (level plan (length q))) q) spot in
      sym (take-append-drop (offset plan (level plan (length p))) p)
      ∙ ap₂ (λ (x y : Bits). x ++ y) path rest
      ∙ take-append-drop (offset plan (level plan (length q))) q

  codes : Routes → List ℕ
  codes rs = map (λ r. code r.prefix) rs

  others : (p : Bits) → Held routes p → (rs : Routes) → ((x : Bits) → Held rs x → Held routes x) → Above p rs → Ascending rs
      → AllByRecursion (λ c. eqb (code p) c ≡ false) (codes rs)
  unfolding codes
  others p h [] held above ascends = tt
  others p h (r ∷ rs) held above ascends = (
    ne_eqb (code p) (code r.prefix) (λ e.
        let same : p ≡ r.prefix = code_alone p r.prefix h (held r.prefix (held_first r rs)) e in
        let wrong : Less ≡ Equal = sym above ∙ ap (order p) (sym same) ∙ order_self p in
        let z : ◌≡◌ {A = ℕ} 0 1 = cc in
        omega arith),
    others p h rs (λ x k. held x (held_more r rs x k)) (behind rs ascends.0) ascends.1,
  )
    where
      behind : (rs : Routes) → Above r.prefix rs → Above p rs
      behind [] a = tt
      behind (q ∷ qs) a = order_chains p r.prefix q.prefix above a

  all_apart : (rs : Routes) → ((x : Bits) → Held rs x → Held routes x) → Ascending rs → IsDistinct eqb (codes rs)
  unfolding codes IsDistinct
  all_apart [] held ascends = tt
  all_apart (r ∷ rs) held ascends = (
    others r.prefix (held r.prefix (held_first r rs)) rs (λ x k. held x (held_more r rs x k)) ascends.0 ascends.1,
    all_apart rs (λ x k. held x (held_more r rs x k)) ascends.1,
  )

  all_below : (rs : Routes) → ((x : Bits) → Held rs x → Held routes x) → (q : ℕ) → list_any (eqb q) (codes rs) ≡ true → q < N * 64
  unfolding codes
  all_below [] held q e = let z : ◌≡◌ {A = ℕ} 0 1 = cc in absurd (omega arith)
  all_below (r ∷ rs) held q e = elim (decided (eqb q (code r.prefix))) [
    | holds k ↦ subst (λ x. x < N * 64) (sym (eqb-true q (code r.prefix) k)) (code_below r.prefix (held r.prefix (held_first r rs)))
    | fails k ↦ all_below rs (λ x i. held x (held_more r rs x i)) q (simp k at e)
  ]

  pub routes_few : length routes ≤ N * 64
  unfolding codes
  routes_few =
      let few = length-le_from_distinct_below (codes routes) (N * 64) (all_apart routes (λ x h. h) can.ascends) (all_below routes (λ x h. h)) in
      let same = length-map routes (λ r. code r.prefix) in
      omega arith
