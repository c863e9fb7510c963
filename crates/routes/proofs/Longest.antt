-- Of the routes that match an address the last in the order is the longest.
use Rattle.std.proofs.Common.{◌≡◌, ℕ, zero, suc, ◌<◌, ◌≤◌, Bool, true, false, cond, List, [], ◌∷◌, map, length, get_or, Some, None, Option, MatchOption, Bor, Less, sym, refl, ap, ◌∙◌, arith}
use lib.ListN.{length-map}
use Rattle.std.proofs.lemmas.List.{get_or-map}
use Rattle.std.proofs.lemmas.Bool.{le-leb}
use Rattle.std.specs.List.{All}
use Rattle.std.specs.Option.{option_map, option_copied}
use Rattle.address.specs.declared.Address.{Ghosts}
use Rattle.bits.specs.Rows.{Bits}
use Rattle.bits.specs.Order.{order, begins}
use Rattle.bits.proofs.Orders.{decided, holds, fails}
use Rattle.model.specs.Routes.{Route, Routes, longer, longest, Ascending}
use Rattle.routes.specs.declared.Route.{Route as Entry}
use Rattle.routes.specs.Meant.{meant, prefix_bits}
use Rattle.routes.specs.Found.{LastMatch}
use Rattle.routes.proofs.Finds.{first_before}

-- of two rows that begin a third, the one that comes first in the order is the shorter
shorter_first : (p q a : Bits) → begins p a ≡ true → begins q a ≡ true → order p q ≡ Less → length p ≤ length q
unfolding order begins
shorter_first [] q a f g e = omega arith
shorter_first (x ∷ p) [] a f g e = cc
shorter_first (x ∷ p) (y ∷ q) [] f g e = cc
shorter_first (false ∷ p) (false ∷ q) (false ∷ a) f g e = let h = shorter_first p q a f g e in omega arith
shorter_first (false ∷ p) (false ∷ q) (true ∷ a) f g e = cc
shorter_first (false ∷ p) (true ∷ q) (false ∷ a) f g e = cc
shorter_first (false ∷ p) (true ∷ q) (true ∷ a) f g e = cc
shorter_first (true ∷ p) (false ∷ q) (a0 ∷ a) f g e = cc
shorter_first (true ∷ p) (true ∷ q) (false ∷ a) f g e = cc
shorter_first (true ∷ p) (true ∷ q) (true ∷ a) f g e = let h = shorter_first p q a f g e in omega arith

module _ (a : Bits) where
  none_matches : (rs : Routes) (d : Route) → ((k : ℕ) → k < length rs → begins (get_or rs k d).prefix a ≡ false) → longest rs a ≡ None
  none_matches [] d h = refl
  none_matches (r ∷ rs) d h =
      ap (λ (t : Bool). cond t (longer r (longest rs a)) (longest rs a)) (h 0 (omega arith))
      ∙ none_matches rs d (λ k lt. h (suc k) (omega arith))

  last_matches : (rs : Routes) (i : ℕ) (d : Route) → Ascending rs → i < length rs → begins (get_or rs i d).prefix a ≡ true
      → ((k : ℕ) → i < k → k < length rs → begins (get_or rs k d).prefix a ≡ false) → longest rs a ≡ Some (get_or rs i d)
  last_matches [] i d s lt b h = absurd (omega arith)
  last_matches (r ∷ rs) zero d s lt b h =
      ap (λ (t : Bool). cond t (longer r (longest rs a)) (longest rs a)) b
      ∙ ap (longer r) (none_matches rs d (λ k in'. h (suc k) (omega arith) (omega arith)))
  last_matches (r ∷ rs) (suc i) d s lt b h =
      let q = get_or rs i d in
      let rest : longest rs a ≡ Some q = last_matches rs i d s.1 (omega arith) b (λ k up in'. h (suc k) (omega arith) (omega arith)) in
      elim (decided (begins r.prefix a)) [
        | holds e ↦
            ap (λ (t : Bool). cond t (longer r (longest rs a)) (longest rs a)) e
            ∙ ap (longer r) rest
            ∙ ap (λ (t : Bool). cond t (Some q) (Some r))
            (le-leb (length r.prefix) (length q.prefix) (shorter_first r.prefix q.prefix a e b (first_before rs r.prefix i d s.0 s.1 (omega arith))))
        | fails e ↦ ap (λ (t : Bool). cond t (longer r (longest rs a)) (longest rs a)) e ∙ rest
      ]

module _ {X : Type 0} {G : Ghosts X} (bits : X → Bits) (xs : List (Entry X G)) (a : Bits) where
  abbrev means : Entry X G → Route
  means = meant bits

  abbrev rs : Routes
  rs = map means xs

  long : length rs ≡ length xs
  long = length-map xs means

  none_is : All (λ r. begins (prefix_bits bits r.prefix) a ≡ false) xs → longest rs a ≡ None
  none_is h = by xs h
    where
      by : (ys : List (Entry X G)) → All (λ r. begins (prefix_bits bits r.prefix) a ≡ false) ys → longest (map means ys) a ≡ None
      by [] h = refl
      by (y ∷ ys) h =
          ap (λ (t : Bool). cond t (longer (means y) (longest (map means ys) a)) (longest (map means ys) a)) (h 0 y (omega arith))
          ∙ by ys (λ k d lt. h (suc k) d (omega arith))

  last_is : Ascending rs → (r : Entry X G) → LastMatch bits xs a r → longest rs a ≡ Some (means r)
  last_is s r (i, inside, is, begins_a, behind) =
      let at : get_or rs i (means r) ≡ means r = get_or-map means xs i r (means r) inside ∙ ap means (sym is) in
      last_matches a rs i (means r) s (omega (arith, long)) (ap (λ (q : Route). begins q.prefix a) at ∙ begins_a)
      (λ k up in'.
      ap (λ (q : Route). begins q.prefix a) (get_or-map means xs k r (means r) (omega (arith, long)))
      ∙ behind k r (omega arith) (omega (arith, long)))
      ∙ ap Some at

  pub longest_is : Ascending rs → (o : Option (Bor (Entry X G)))
      → MatchOption o (All (λ r. begins (prefix_bits bits r.prefix) a ≡ false) xs) (λ r. LastMatch bits xs a r.now)
      → option_map means (option_copied o) ≡ longest rs a
  longest_is s None h = sym (none_is h)
  longest_is s (Some r) h = sym (last_is s r.now h)
