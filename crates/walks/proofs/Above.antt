-- What is above a row in a tree: the bits decide between the halves of a node, and what is above them below their child comes before the rest.
use Rattle.std.proofs.Common.{◌≡◌, ℕ, zero, suc, ◌<◌, ◌≤◌, true, false, [], ◌∷◌, ◌++◌, length, take, Some, None, Option, sym, refl, ap, ◌∙◌, subst, ap₂, append_assoc, append-nil, le_of_suc-le-suc, not-suc-le-zero}
use Rattle.bits.specs.Rows.{Bits}
use Rattle.bits.specs.Order.{before, order}
use Rattle.bits.proofs.Orders.{less, equal, greater, compared}
use Rattle.laws.proofs.Longest.{or_assoc, or_else, or_none}
use Rattle.laws.proofs.Places.{above_first}
use Rattle.laws.proofs.Trees.{Under, half_under, halves_above, order_common, routes_of, under_above}
use Rattle.model.specs.Nodes.{entry}
use Rattle.model.specs.Routes.{Route, Routes, Above, above, smallest}

-- the first of two parts that has one
above_append : (xs ys : Routes) (p : Bits) → above (xs ++ ys) p ≡ or_else (above xs p) (above ys p)
above_append [] ys p = refl
above_append (x ∷ xs) ys p = elim (compared p x.prefix) [
  | less e ↦ simp e
  | equal e ↦ simp e (above_append xs ys p)
  | greater e ↦ simp e (above_append xs ys p)
]

-- none is above where every prefix goes on from a row that is not
passed_by : (p q : Bits) (rs : Routes) → ((x : Bits) → before q (p ++ x) ≡ false) → Under p rs → above rs q ≡ None
unfolding Under
passed_by p q [] h u = refl
passed_by p q (r ∷ rs) h u = rw (u.0.1, h u.0.0) (passed_by p q rs h u.1)

-- a row is not above those that go on from it
not_before : (p cs : Bits) → before (p ++ cs) p ≡ false
unfolding order
not_before [] [] = refl
not_before [] (c ∷ cs) = refl
not_before (false ∷ p) cs = not_before p cs
not_before (true ∷ p) cs = not_before p cs

pub entry_passed : (p : Bits) (o : Option ℕ) (cs : Bits) → above (entry p o) (p ++ cs) ≡ None
entry_passed p None cs = refl
entry_passed p (Some h) cs = simp (not_before p cs)

-- those that go on with 0 are not above one that goes on with 1
first_half : (p cs x : Bits) → before (p ++ (true ∷ cs)) (p ++ (false ∷ []) ++ x) ≡ false
unfolding order
first_half p cs x = rw (append_assoc p (false ∷ []) x, order_common p (true ∷ cs) (false ∷ x))

module _ (path : Bits) (o : Bits → Option ℕ) (below : Bits → Routes) where
  -- from some levels of the node on, what is above the bits below the child on their way
  unfoldable pub ahead : ℕ → Bits → Bits → Option Route
  ahead zero bs cs = above (below bs) (path ++ bs ++ cs)
  ahead (suc more) bs [] = None
  ahead (suc more) bs (c ∷ cs) = ahead more (bs ++ (c ∷ [])) cs

  -- and what comes next in the node
  unfoldable pub behind : ℕ → Bits → Bits → Option Route
  behind zero bs cs = None
  behind (suc more) bs [] =
      or_else (smallest (routes_of path o below more (bs ++ (false ∷ [])))) (smallest (routes_of path o below more (bs ++ (true ∷ []))))
  behind (suc more) bs (false ∷ cs) = or_else (behind more (bs ++ (false ∷ [])) cs) (smallest (routes_of path o below more (bs ++ (true ∷ []))))
  behind (suc more) bs (true ∷ cs) = behind more (bs ++ (true ∷ [])) cs

  -- fewer bits than there are levels lead to no child, more lead to the one of their first bits
  pub ahead_short : (more : ℕ) (bs cs : Bits) → length cs < more → ahead more bs cs ≡ None
  unfolding ahead
  ahead_short zero bs cs h = absurd (not-suc-le-zero h)
  ahead_short (suc more) bs [] h = refl
  ahead_short (suc more) bs (c ∷ cs) h = ahead_short more (bs ++ (c ∷ [])) cs (le_of_suc-le-suc h)

  pub ahead_below : (more : ℕ) (bs cs : Bits) → more ≤ length cs → ahead more bs cs ≡ above (below (bs ++ take more cs)) (path ++ bs ++ cs)
  unfolding ahead
  ahead_below zero bs cs h = rw append-nil
  ahead_below (suc more) bs [] h = absurd (not-suc-le-zero h)
  ahead_below (suc more) bs (c ∷ cs) h = ahead_below more (bs ++ (c ∷ [])) cs (le_of_suc-le-suc h) ∙ simp append_assoc

  module _ (under : (bs : Bits) → Under (path ++ bs) (below bs)) where
    pub order_above : (more : ℕ) (bs cs : Bits)
        → above (routes_of path o below more bs) (path ++ bs ++ cs) ≡ or_else (ahead more bs cs) (behind more bs cs)
    unfolding routes_of ahead behind
    order_above zero bs cs = sym (or_none (above (below bs) (path ++ bs ++ cs)))
    order_above (suc more) bs [] =
        let p = path ++ bs in
        let xs = routes_of path o below more (bs ++ (false ∷ [])) in
        let ys = routes_of path o below more (bs ++ (true ∷ [])) in
        let u = half_under path o below under more bs false in
        let v = half_under path o below under more bs true in
        above_append (entry p (o bs)) (xs ++ ys) (p ++ [])
        ∙ ap (λ t. or_else t (above (xs ++ ys) (p ++ []))) (entry_passed p (o bs) [])
        ∙ ap (above (xs ++ ys)) (append-nil p)
        ∙ above_append xs ys p
        ∙ ap₂ or_else (above_first xs p (under_above p false xs u)) (above_first ys p (under_above p true ys v))
    order_above (suc more) bs (false ∷ cs) =
        let p = path ++ bs in
        let q = p ++ (false ∷ cs) in
        let xs = routes_of path o below more (bs ++ (false ∷ [])) in
        let ys = routes_of path o below more (bs ++ (true ∷ [])) in
        let v = half_under path o below under more bs true in
        let rest : above xs q ≡ or_else (ahead more (bs ++ (false ∷ [])) cs) (behind more (bs ++ (false ∷ [])) cs) =
        simp append_assoc (simp append_assoc at (order_above more (bs ++ (false ∷ [])) cs)) in
        let last : above ys q ≡ smallest ys =
        above_first ys q (subst (λ (x : Bits). Above x ys) (append_assoc p (false ∷ []) cs) (halves_above p cs ys v)) in
        above_append (entry p (o bs)) (xs ++ ys) q
        ∙ ap (λ t. or_else t (above (xs ++ ys) q)) (entry_passed p (o bs) (false ∷ cs))
        ∙ above_append xs ys q
        ∙ ap₂ or_else rest last
        ∙ or_assoc (ahead more (bs ++ (false ∷ [])) cs) (behind more (bs ++ (false ∷ [])) cs) (smallest ys)
    order_above (suc more) bs (true ∷ cs) =
        let p = path ++ bs in
        let q = p ++ (true ∷ cs) in
        let xs = routes_of path o below more (bs ++ (false ∷ [])) in
        let ys = routes_of path o below more (bs ++ (true ∷ [])) in
        let u = half_under path o below under more bs false in
        let rest : above ys q ≡ or_else (ahead more (bs ++ (true ∷ [])) cs) (behind more (bs ++ (true ∷ [])) cs) =
        simp append_assoc (simp append_assoc at (order_above more (bs ++ (true ∷ [])) cs)) in
        above_append (entry p (o bs)) (xs ++ ys) q
        ∙ ap (λ t. or_else t (above (xs ++ ys) q)) (entry_passed p (o bs) (true ∷ cs))
        ∙ above_append xs ys q
        ∙ ap (λ t. or_else t (above ys q)) (passed_by (p ++ (false ∷ [])) q xs (first_half p cs) u)
        ∙ rest
