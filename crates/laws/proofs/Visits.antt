-- The walk visits as many nodes as there are required paths that begin the address, if the paths reached are the required ones.
use Rattle.std.proofs.Common.{◌≡◌, ℕ, suc, ◌+◌, ◌-◌, ◌^◌, ◌<◌, ◌≤◌, Bool, true, false, cond, ◌||◌, eqb, leb, List, [], ◌∷◌, length, take, drop, is_some, None, Option, sym, refl, ap, ◌∙◌, not-suc-le-zero, arith, length-drop, drop_of_length-le, length-take-le, take-take, drop-drop, take-add, drop_at, le-ltb, lt-ltb, leb-false, leb-true}
use Rattle.bits.specs.Rows.{Bits, read_group, number}
use Rattle.bits.specs.Order.{begins, order, same}
use Rattle.model.specs.Nodes.{Nodes, Walk, deepest, node_of, noted, reached, spot, visited, walk, walk_from}
use Rattle.model.specs.Plans.{in_range, offsets, offsets_from, plan_ok, sum}
use Rattle.model.specs.Required.{Single, ways, member, path_count, required_paths, way}
use Rattle.model.specs.Routes.{Route, Routes}
use Rattle.bits.proofs.Prefixes.{begins_front, front_from_begins}
use Rattle.bits.proofs.Orders.{holds, fails, decided, same_eq, same_self}
use Rattle.laws.proofs.Bools.{and_false, and_true, or_true}
use Rattle.laws.proofs.Singles.{count_keeps, keep, keep_single, member_keep, required_single, same_length}
use Rattle.laws.proofs.Paths.{member_append, member_distinct}
use Rattle.laws.proofs.Plans.{planned, ranged, sum_none}
use Rattle.laws.proofs.Walks.{group_inside}

-- ---- the first bits of an address at the offsets

module _ (a : Bits) where
  unfoldable pub takes : List ℕ → List Bits
  takes [] = []
  takes (o ∷ os) = take o a ∷ takes os

  pub other_length : (q x : Bits) → (length q ≡ length x → ⊥) → same q x ≡ false
  other_length q x h = elim (decided (same q x)) [ holds e ↦ absurd (h (ap length (same_eq q x e))) | fails e ↦ e ]

  longer_ones : (ss : List ℕ) (o : ℕ) (q : Bits) → in_range ss ≡ true → o + sum ss ≤ suc (length a) → length q < o
      → member q (takes (offsets_from o ss)) ≡ false
  unfolding takes
  longer_ones [] o q g h l = refl
  longer_ones (s ∷ ss) o q g h l =
      let range = ranged s ss g in
      let size = length-take-le o a (omega arith) in
      let apart = other_length q (take o a) (λ e. omega arith) in
      simp apart (longer_ones ss (o + s) q range.rest (omega arith) (omega arith))

  pub takes_single : (ss : List ℕ) (o : ℕ) → in_range ss ≡ true → o + sum ss ≤ suc (length a) → Single (takes (offsets_from o ss))
  unfolding takes
  takes_single [] o g h = tt
  takes_single (s ∷ ss) o g h =
      let range = ranged s ss g in
      let size = length-take-le o a (omega arith) in
      (longer_ones ss (o + s) (take o a) range.rest (omega arith) (omega arith), takes_single ss (o + s) range.rest (omega arith))

  -- two tests that agree on these
  keep_same : (f g : Bits → Bool) (ss : List ℕ) (o : ℕ) → in_range ss ≡ true → o + sum ss ≤ suc (length a)
      → ((k : ℕ) → o ≤ k → k ≤ length a → f (take k a) ≡ g (take k a))
      → keep f (takes (offsets_from o ss)) ≡ keep g (takes (offsets_from o ss))
  unfolding takes keep
  keep_same f g [] o r h e = refl
  keep_same f g (s ∷ ss) o r h e =
      let range = ranged s ss r in
      let here = e o (omega arith) (omega arith) in
      let rest = keep_same f g ss (o + s) range.rest (omega arith) (λ k l m. e k (omega arith) m) in
      simp (here, rest)

  -- ---- the nodes that a walk visits

  module _ (nodes : Nodes) where
    reach : List ℕ → ℕ → ℕ → Bits → Bool
    reach ss off n q = is_some (node_of (spot nodes ss n (drop off q)))

    -- what is left of the address's first k bits behind the offset
    rest_of : (off k : ℕ) → off ≤ k → k ≤ length a → drop off (take k a) ≡ take (k - off) (drop off a)
    rest_of off k h l =
        let split : k ≡ off + (k - off) = omega arith in
        ap (λ (i : ℕ). drop off (take i a)) split
        ∙ ap (drop off) (take-add off (k - off) a)
        ∙ drop_at (take off a) (take (k - off) (drop off a)) off (length-take-le off a (omega arith))

    module _ (s : ℕ) (ss : List ℕ) (off n k : ℕ) (low : off + s ≤ k) (high : k ≤ length a) where
      next_child : ℕ
      next_child = nodes.child n (number (take s (drop off a)))

      reach_step : reach (s ∷ ss) off n (take k a) ≡ is_some (node_of (cond (eqb next_child 0) None (spot nodes ss next_child (drop (off + s) (take k a)))))
      unfolding reach next_child
      reach_step =
          let left = rest_of off k (omega arith) high in
          let size : length (drop off (take k a)) ≡ k - off = length-drop off (take k a) ∙ ap (λ (i : ℕ). i - off) (length-take-le k a high) in
          let far = le-ltb (length (drop off (take k a))) s (omega arith) in
          let same_bits : take s (drop off (take k a)) ≡ take s (drop off a) = ap (take s) left ∙ take-take s (k - off) (drop off a) (omega arith) in
          simp (far, drop-drop s off (take k a), same_bits)

    visits_of : (t : Bool) (h : Option Route) (w : Walk) → (visited (cond t (record { found = h; visits = 0 }) w)).visits ≡ suc (cond t 0 w.visits)
    visits_of true h w = refl
    visits_of false h w = refl

    keep_none : (xs : List Bits) → length (keep (λ _. false) xs) ≡ 0
    unfolding keep
    keep_none [] = refl
    keep_none (x ∷ xs) = keep_none xs

    cond_zero : (t : Bool) (x : ℕ) → x ≡ 0 → cond t 0 x ≡ 0
    cond_zero true x e = refl
    cond_zero false x e = e

    reach_here : (s : ℕ) (ss : List ℕ) (off n : ℕ) → 1 ≤ s → off ≤ length a → reach (s ∷ ss) off n (take off a) ≡ true
    unfolding reach
    reach_here s ss off n low h =
        let size = length-take-le off a h in
        let none : drop off (take off a) ≡ [] = drop_of_length-le (take off a) (omega arith) in
        simp (none, lt-ltb 0 s low)

    visits_reached : (ss : List ℕ) (off n : ℕ) (f : Option Route) → in_range ss ≡ true → off + sum ss ≤ suc (length a)
        → (walk_from nodes ss a off n f).visits ≡ length (keep (reach ss off n) (takes (offsets_from off ss)))
    unfolding takes keep next_child reach
    visits_reached [] off n f g h = refl
    visits_reached (s ∷ ss) off n f g h =
        let range = ranged s ss g in
        let i = 2 ^ (s - 1) + read_group a off (s - 1) in
        let match = noted nodes n off a (deepest (nodes.bitmap n) s i) f in
        let c = nodes.child n (read_group a off s) in
        let go = walk_from nodes ss a (off + s) c match in
        let more = takes (offsets_from (off + s) ss) in
        let first : reach (s ∷ ss) off n (take off a) ≡ true = reach_here s ss off n range.low (omega arith) in
        let tail : cond (eqb c 0) 0 go.visits ≡ length (keep (reach (s ∷ ss) off n) more) =
        elim (decided (leb (off + s) (length a))) [
          | holds e ↦
              (let inside = leb-true (off + s) (length a) e in
              let d = nodes.child n (number (take s (drop off a))) in
              let same-child : c ≡ d = ap (nodes.child n) (group_inside a off s range.high (let l = length-drop off a in omega arith)) in
              elim (decided (eqb d 0)) [
                | holds k ↦ simp (same-child, k)
                    (sym (ap length (keep_same (reach (s ∷ ss) off n) (λ _. false) ss (off + s) range.rest (omega arith)
                    (λ j l m. reach_step s ss off n j l m ∙ simp k))
                    ∙ keep_none more))
                | fails k ↦ simp (same-child, k)
                    (visits_reached ss (off + s) d match range.rest (omega arith)
                    ∙ sym (ap length (keep_same (reach (s ∷ ss) off n) (reach ss (off + s) d) ss (off + s) range.rest (omega arith)
                    (λ j l m. reach_step s ss off n j l m ∙ simp k))))
              ])
          | fails e ↦
              (let outside = leb-false (off + s) (length a) e in
              let last : ss ≡ [] = sum_none ss range.rest (omega arith) in
              cond_zero (eqb c 0) go.visits (ap (λ (l : List ℕ). (walk_from nodes l a (off + s) c match).visits) last)
              ∙ sym (ap (λ (l : List ℕ). length (keep (reach (s ∷ ss) off n) (takes (offsets_from (off + s) l)))) last))
        ] in
        visits_of (eqb c 0) match go ∙ ap suc tail ∙ simp first

  -- ---- the required paths that begin the address

  -- a step that begins the address is among its first bits at the offsets
  step_taken : (os : List ℕ) (p q : Bits) → q ≡ take (length q) a → member q (way os p) ≡ true → member q (takes os) ≡ true
  unfolding takes
  step_taken [] p q e m = m
  step_taken (o ∷ os) p q e m =
      let later : member q (way os p) ≡ true → (same q (take o a) || member q (takes os)) ≡ true =
      λ k. ap (λ t. same q (take o a) || t) (step_taken os p q e k) ∙ or_true (same q (take o a)) in
      elim (decided (leb o (length p))) [
        | holds k ↦ elim (decided (same q (take o p))) [
          | holds i ↦
              (let size : length q ≡ o = ap length (same_eq q (take o p) i) ∙ length-take-le o p (leb-true o (length p) k) in
              let here : q ≡ take o a = e ∙ ap (λ (j : ℕ). take j a) size in
              simp (← here, same_self q))
          | fails i ↦ later (simp (k, i) at m)
        ]
        | fails k ↦ later (simp k at m)
      ]

  all_taken : (os : List ℕ) (rs : Routes) (q : Bits) → q ≡ take (length q) a → member q (ways os rs) ≡ true → member q (takes os) ≡ true
  all_taken os [] q e m = cc
  all_taken os (r ∷ rs) q e m =
      let either = sym (member_append q (way os r.prefix) (ways os rs)) ∙ m in
      elim (decided (member q (way os r.prefix))) [
        | holds k ↦ step_taken os r.prefix q e k
        | fails k ↦ all_taken os rs q e (simp k at either)
      ]

  taken_begins : (os : List ℕ) (q : Bits) → member q (takes os) ≡ true → begins q a ≡ true
  unfolding takes
  taken_begins [] q m = cc
  taken_begins (o ∷ os) q m = elim (decided (same q (take o a))) [
    | holds k ↦ rw (same_eq q (take o a) k) (begins_front o a)
    | fails k ↦ taken_begins os q (simp k at m)
  ]

  root_taken : (plan : List ℕ) → 1 ≤ length plan → member [] (takes (offsets plan)) ≡ true
  unfolding takes order
  root_taken [] h = absurd (not-suc-le-zero h)
  root_taken (s ∷ ss) h = refl

  pub required_taken : (plan : List ℕ) (routes : Routes) (q : Bits) → 1 ≤ length plan → member q (required_paths plan routes) ≡ true
      → member q (takes (offsets plan)) ≡ begins q a
  unfolding required_paths
  required_taken plan routes q some m =
      let os = offsets plan in
      let either = sym (member_distinct q ([] ∷ ways os routes)) ∙ m in
      elim (decided (begins q a)) [
        | holds b ↦ elim (decided (same q [])) [
          | holds e ↦ ap (λ (x : Bits). member x (takes os)) (same_eq q [] e) ∙ root_taken plan some ∙ sym b
          | fails e ↦ all_taken os routes q (sym (front_from_begins q a b)) (simp e at either) ∙ sym b
        ]
        | fails b ↦ elim (decided (member q (takes os))) [
          | holds t ↦ (let wrong = taken_begins os q t in cc)
          | fails t ↦ t ∙ sym b
        ]
      ]

module _ (a : Bits) (nodes : Nodes) (plan : List ℕ) (routes : Routes) where
  same_ones : ((q : Bits) → is_some (reached nodes plan q) ≡ member q (required_paths plan routes)) → 1 ≤ length plan
      → (q : Bits)
      → member q (keep (reach a nodes plan 0 0) (takes a (offsets plan))) ≡ member q (keep (λ p. begins p a) (required_paths plan routes))
  unfolding reach reached
  same_ones shape some q =
      let os = offsets plan in
      let R = required_paths plan routes in
      member_keep (reach a nodes plan 0 0) q (takes a os)
      ∙ elim (decided (member q R)) [
        | holds k ↦ simp (shape q, k) (required_taken a plan routes q some k ∙ sym (and_true (begins q a)))
        | fails k ↦ simp (shape q, k) (sym (and_false (begins q a)))
      ]
      ∙ sym (member_keep (λ p. begins p a) q R)

  pub walk_visits : plan_ok (length a) plan ≡ true → ((q : Bits) → is_some (reached nodes plan q) ≡ member q (required_paths plan routes))
      → (walk nodes plan a).visits ≡ path_count plan routes a
  unfolding walk path_count plan_ok
  walk_visits h shape =
      let ok = planned (length a) plan h in
      let total = ok.total in
      let range = ok.range in
      let some = ok.some in
      let R = required_paths plan routes in
      visits_reached a nodes plan 0 0 None range (omega arith)
      ∙ same_length (keep (reach a nodes plan 0 0) (takes a (offsets plan))) (keep (λ p. begins p a) R)
      (keep_single (reach a nodes plan 0 0) (takes a (offsets plan)) (takes_single a plan 0 range (omega arith)))
      (keep_single (λ p. begins p a) R (required_single plan routes))
      (same_ones shape some)
      ∙ sym (count_keeps a R)
