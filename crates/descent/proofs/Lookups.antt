-- What a lookup answers, from how its walk ended.
use Rattle.std.proofs.Common.{◌≡◌, ℕ, ◌+◌, ◌*◌, ◌<◌, ◌≤◌, ◌^◌, true, false, List, length, take, Some, None, Option, Err, Result, IfSome, refl, sym, ap, ◌∙◌, ap₂, pow_pos, le-leb, lt-ltb, arith}
use Rattle.std.proofs.Math.Nat.{pow-le-pow_right}
use Rattle.bits.proofs.Padded.{group_small}
use Rattle.bits.specs.Rows.{Bits, read_group}
use Rattle.faults.specs.declared.Fault.{Fault}
use Rattle.faults.specs.declared.Refusal.TheVariants.{Place}
use Rattle.faults.specs.Numbers.{of_memory}
use Rattle.model.specs.Nodes.{Nodes, Walk, walk}
use Rattle.model.specs.Outcomes.{granted, outcome}
use Rattle.model.specs.Routes.{Route, route}
use Rattle.nodes.specs.Fields.{is_hop}
use Rattle.walks.specs.Walks.{visits_nodes, walked}
use Rattle.descent.specs.declared.walk.Match.{Match}
use Rattle.descent.specs.declared.walk.Walked.{Walked}
use Rattle.descent.specs.Steps.{Ends, Last, Stands}
use Rattle.descent.proofs.Going.{bits_of, one_highest}

module _ (nodes : Nodes) (plan : List ℕ) (a : Bits) where
  -- the walk came to its end
  pub lookup_found : {w : Walked} {found : Option Route} → Ends nodes plan a w → found ≡ (walk nodes plan a).found
      → granted (record { found = found; visits = w.visits }) ≡ walked nodes plan a
  unfolding walked
  lookup_found ends is =
      ap₂ (λ (f : Option Route) (v : ℕ). granted (record { found = f; visits = v })) is (sym ends.visits)
      ∙ simp ends.there

  -- it came to a node that is none
  pub lookup_refused : {T : Type 0} (meant : T → Walk) (r : Result T Fault) (f : Fault) → r ≡ Err f → visits_nodes nodes plan a 0 0 ≡ false → f ≡ of_memory Place
      → outcome meant r ≡ walked nodes plan a
  unfolding walked
  lookup_refused meant r f e none is = simp (e, is, none)

-- a match lies at a position of its node, behind bits that the address has
pub placed : (nodes : Nodes) (a : Bits) (last : Option Match) (found : Option Route) → length a ≤ 128 → Last nodes a last found
    → IfSome last (λ m. (m.offset < 256) × (1 < m.marks))
placed nodes a None found few h = tt
placed nodes a (Some m) None few h = absurd h
placed nodes a (Some m) (Some r) few h =
    let p = pow_pos h.more in
    let q = pow-le-pow_right {n = 2} (omega arith) {i = 1} {j = 2 ^ h.more + read_group a m.offset h.more} (omega arith) in
    (omega (arith, h.within), omega (arith, h.position.0))

-- a match stands for a route
pub some_stands : (nodes : Nodes) (a : Bits) (m : Match) (found : Option Route) → Last nodes a (Some m) found
    → (r : Route) × (found ≡ Some r) × Stands nodes a m r
some_stands nodes a m None h = absurd h
some_stands nodes a m (Some r) h = (r, refl, h)

-- its position is the highest of its marks
module _ {nodes : Nodes} {a : Bits} {m : Match} {r : Route} (stands : Stands nodes a m r) (position : ℕ) (low : 2 ^ position ≤ m.marks) (high : m.marks < 2 * 2 ^ position) where
  position_is : position ≡ 2 ^ stands.more + read_group a m.offset stands.more
  position_is = one_highest m.marks position (2 ^ stands.more + read_group a m.offset stands.more) (low, high) stands.position

  pub is_hop_there : is_hop nodes m.node position ≡ true
  is_hop_there =
      let p = pow_pos stands.more in
      let six : stands.more ≤ 5 = omega (arith, stands.few) in
      let small = group_small a m.offset stands.more (omega arith) in
      let power = pow-le-pow_right {n = 2} (omega arith) {i = stands.more} {j = 5} six in
      let is = position_is in
      simp (stands.there, le-leb 1 position (omega arith), lt-ltb position 64 (omega arith))

  -- the logarithm of its position is the number of its bits in the node
  pub route_there : (log hop : ℕ) (p : Bits) → 2 ^ log ≤ position → position < 2 * 2 ^ log → hop ≡ nodes.hop m.node position
      → p ≡ take (m.offset + log) a → route p hop ≡ r
  route_there log hop p least most is_hop is_bits =
      let more = bits_of position stands.more log a m.offset stands.few position_is least most in
      ap₂ route (is_bits ∙ ap (λ k. take (m.offset + k) a) more) (is_hop ∙ ap (nodes.hop m.node) position_is) ∙ sym stands.is
