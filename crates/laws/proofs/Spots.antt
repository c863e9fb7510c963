-- On any nodes, where a prefix lies: the spot that its strides lead to, by path and position, and by child indexes.
use Rattle.std.proofs.Common.{◌≡◌, ℕ, ◌+◌, ◌-◌, ◌<◌, ◌≤◌, true, cond, eqb, ltb, List, [], ◌∷◌, length, take, drop, None, sym, ap, ◌∙◌, not-suc-le-zero, arith, length-drop, length-take-le, take-take, drop-drop, ltb-false, ltb-true, le-ltb, lt-ltb}
use Rattle.std.proofs.lemmas.List.{drop-take}
use Rattle.bits.specs.Rows.{Bits, number}
use Rattle.bits.proofs.Orders.{holds, fails, decided}
use Rattle.laws.proofs.Levels.{somewhere}
use Rattle.laws.proofs.Plans.{planned}
use Rattle.model.specs.Nodes.{Nodes, descend, held, hop_in_node, hop_of, node_of, reached, spot}
use Rattle.model.specs.Places.{indexes, level, path_to, position, position_of}
use Rattle.model.specs.Plans.{offset, plan_ok, sum}

module _ (nodes : Nodes) where
  module _ (s : ℕ) (ss : List ℕ) (n : ℕ) (p : Bits) (short : length p < s + sum ss) (far : s ≤ length p) where
    abbrev c : ℕ
    c = nodes.child n (number (take s p))

    abbrev rest : Bits
    rest = drop s p

    left : length rest ≡ length p - s
    left = length-drop s p

    abbrev o : ℕ
    o = offset ss (level ss (length p - s))

    within : o ≤ length p - s
    within = (somewhere ss (length p - s) (omega arith)).1

    behind : drop s (take (s + o) p) ≡ path_to ss rest
    behind = drop-take s o p ∙ ap (λ (k : ℕ). take (offset ss (level ss k)) rest) (sym left)

    -- a path that goes on leads to the child
    onward : spot nodes (s ∷ ss) n (take (s + o) p) ≡ cond (eqb c 0) None (spot nodes ss c (path_to ss rest))
    onward =
        let size = length-take-le (s + o) p (let w = within in omega arith) in
        let far-too = le-ltb (length (take (s + o) p)) s (omega arith) in
        let front : take s (take (s + o) p) ≡ take s p = take-take s (s + o) p (omega arith) in
        simp (far-too, front, behind)

    position_behind : position_of ss rest ≡ position (drop (s + o) p)
    position_behind =
        ap (λ (k : ℕ). position (drop (offset ss (level ss k)) rest)) left
        ∙ ap position (drop-drop o s p)

  lies_from : (ss : List ℕ) (n : ℕ) (p : Bits) → length p < sum ss
      → hop_of nodes (spot nodes ss n p) ≡ hop_in_node nodes (node_of (spot nodes ss n (path_to ss p))) (position_of ss p)
  lies_from [] n p h = absurd (not-suc-le-zero h)
  lies_from (s ∷ ss) n p h = elim (decided (ltb (length p) s)) [
    | holds e ↦ (let near = ltb-true (length p) s e in simp (e, lt-ltb 0 s (omega arith)))
    | fails e ↦
        (let far = ltb-false (length p) s e in
        let below = lies_from ss (c s ss n p h far) (drop s p) (let l = length-drop s p in omega arith) in
        simp (e, onward s ss n p h far)
        (elim (decided (eqb (c s ss n p h far) 0)) [
          | holds k ↦ simp k
          | fails k ↦ simp k (below ∙ ap (hop_in_node nodes (node_of (spot nodes ss (c s ss n p h far) (path_to ss (drop s p))))) (position_behind s ss n p h far))
        ]))
  ]

  indexes_from : (ss : List ℕ) (n : ℕ) (p : Bits) → length p < sum ss → descend nodes n (indexes ss p) ≡ node_of (spot nodes ss n (path_to ss p))
  indexes_from [] n p h = absurd (not-suc-le-zero h)
  indexes_from (s ∷ ss) n p h = elim (decided (ltb (length p) s)) [
    | holds e ↦ (let near = ltb-true (length p) s e in simp (e, lt-ltb 0 s (omega arith)))
    | fails e ↦
        (let far = ltb-false (length p) s e in
        let below = indexes_from ss (c s ss n p h far) (drop s p) (let l = length-drop s p in omega arith) in
        simp (e, onward s ss n p h far)
        (elim (decided (eqb (c s ss n p h far) 0)) [ holds k ↦ simp k | fails k ↦ simp k below ]))
  ]

module _ (W : ℕ) (nodes : Nodes) (plan : List ℕ) (p : Bits) (ok : plan_ok W plan ≡ true) (short : length p ≤ W) where
  fits : length p < sum plan
  fits = let total = (planned W plan ok).total in omega arith

  pub lies_at_position : held nodes plan p ≡ hop_in_node nodes (reached nodes plan (path_to plan p)) (position_of plan p)
  unfolding held reached
  lies_at_position = lies_from nodes plan 0 p fits

  pub indexes_lead : descend nodes 0 (indexes plan p) ≡ reached nodes plan (path_to plan p)
  unfolding reached
  indexes_lead = indexes_from nodes plan 0 p fits
