-- A lookup's walk on its way: what is still to come, and what was found so far.
use Rattle.std.proofs.Common.{◌≡◌, ℕ, zero, suc, ◌+◌, ◌-◌, ◌/◌, ◌%◌, ◌^◌, ◌*◌, ◌<◌, ◌≤◌, Bool, true, false, cond, ◌||◌, eqb, List, ◌∷◌, length, get_or, drop, Some, None, Option, refl, sym, ap, ◌∙◌, ap₂, ⊎_elim, subst, pow-add, pow-suc, pow_pos, arith}
use Rattle.std.proofs.Math.Nat.{mul-add-div_right, pow-le-pow_right}
use Rattle.std.proofs.lemmas.List.{at_drop_more}
use Rattle.std.proofs.lemmas.Bool.{cases_lt, eq-eqb, ne_eqb}
use Rattle.std.proofs.lemmas.Nat.{one_shl}
use Rattle.std.specs.Option.{option_map}
use Rattle.bits.specs.Rows.{Bits, read_group}
use Rattle.bits.proofs.Padded.{group_front, group_small}
use Rattle.bits.proofs.Orders.{holds, fails, decided}
use Rattle.laws.proofs.Plans.{ranged}
use Rattle.masks.specs.Ways.{HighestBit, deepest_position}
use Rattle.model.specs.Nodes.{Nodes, Walk, deepest, marked, noted, visited, walk, walk_from}
use Rattle.model.specs.Plans.{in_range, sum}
use Rattle.model.specs.Routes.{Route}
use Rattle.nodes.specs.Fields.{is_node}
use Rattle.walks.specs.Walks.{visits_nodes}
use Rattle.descent.specs.declared.walk.Match.{Match}
use Rattle.descent.specs.Steps.{Ends, Last}

pub record Going (nodes : Nodes) (plan : List ℕ) (a : Bits) (rest : List ℕ) (offset node visits : ℕ) (last : Option Match) : Type 0 where
  pub found : Option Route
  pub stands : Last nodes a last found
  pub there : visits_nodes nodes plan a 0 0 ≡ visits_nodes nodes rest a offset node
  pub finds : (walk nodes plan a).found ≡ (walk_from nodes rest a offset node found).found
  pub counts : (walk nodes plan a).visits ≡ visits + (walk_from nodes rest a offset node found).visits
  pub range : in_range rest ≡ true
  pub total : offset + sum rest ≡ suc (length a)

-- at first
pub going : (nodes : Nodes) (plan : List ℕ) (a : Bits) → in_range plan ≡ true → sum plan ≡ suc (length a) → Going nodes plan a plan 0 0 0 None
unfolding walk
going nodes plan a range total =
    record { found = None; stands = tt; there = refl; finds = refl; counts = omega arith; range = range; total = omega (arith, total) }

-- a match within a node is of fewer bits than its stride
fewer : (bitmap s i more : ℕ) → deepest bitmap s i ≡ Some more → more < s
fewer bitmap zero i more e = cc
fewer bitmap (suc s) i more e = elim (decided (marked bitmap i)) [
  | holds m ↦ (let same : Some s ≡ Some more = simp m at e in let is : s ≡ more = cc in omega arith)
  | fails m ↦ (let less = fewer bitmap s (i / 2) more (simp m at e) in omega arith)
]

module _ {nodes : Nodes} {plan : List ℕ} {a : Bits} {s : ℕ} {ss : List ℕ} {offset node visits : ℕ} {last : Option Match}
    (going : Going nodes plan a (s ∷ ss) offset node visits last) (there : is_node nodes node ≡ true)
    (marks : ℕ) (matches : HighestBit marks (deepest_position (nodes.bitmap node) s (2 ^ (s - 1) + read_group a offset s / 2))) where
  abbrev start : ℕ
  start = 2 ^ (s - 1) + read_group a offset (s - 1)

  abbrev last_now : Option Match
  last_now = cond (eqb marks 0) last (Some (record { node = node; offset = offset; marks = marks }))

  abbrev found_now : Option Route
  found_now = noted nodes node offset a (deepest (nodes.bitmap node) s start) going.found

  range : (1 ≤ s) × (s ≤ 6)
  range = let r = ranged s ss going.range in (r.low, r.high)

  start_is : 2 ^ (s - 1) + read_group a offset s / 2 ≡ start
  start_is =
      let r = range in
      let one : s - (s - 1) ≡ 1 = omega arith in
      ap (λ y. 2 ^ (s - 1) + y)
      (ap (λ k. read_group a offset s / 2 ^ k) (sym one) ∙ group_front a offset s (s - 1) (omega arith) (omega arith))

  -- the position of a match, from the position of all bits but the last
  place : (more : ℕ) → more < s → start / 2 ^ (s - 1 - more) ≡ 2 ^ more + read_group a offset more
  place more low =
      let r = range in
      let k = s - 1 - more in
      let whole : s - 1 ≡ more + k = omega arith in
      let power : 2 ^ (s - 1) ≡ 2 ^ more * 2 ^ k = ap (λ i. 2 ^ i) whole ∙ pow-add 2 more k in
      ap (λ x. (x + read_group a offset (s - 1)) / 2 ^ k) power
      ∙ mul-add-div_right (pow_pos k) (2 ^ more) (read_group a offset (s - 1))
      ∙ ap (λ x. 2 ^ more + x) (group_front a offset (s - 1) more (omega arith) (omega arith))

  stands_by : (d : Option ℕ) → ((more : ℕ) → d ≡ Some more → more < s) → HighestBit marks (option_map (λ more. start / 2 ^ (s - 1 - more)) d)
      → Last nodes a last_now (noted nodes node offset a d going.found)
  stands_by None few top = simp (eq-eqb marks 0 top) going.stands
  stands_by (Some more) few top =
      let r = range in
      let low = few more refl in
      let total = going.total in
      let some : 0 < marks = (let p = pow_pos (start / 2 ^ (s - 1 - more)) in let h = top.0 in omega arith) in
      let marked : eqb marks 0 ≡ false = ne_eqb marks 0 (λ e. omega arith) in
      simp marked
      (record {
        there = there;
        more = more;
        few = omega arith;
        within = omega arith;
        position = subst (λ (p : ℕ). HighestBit marks (Some p)) (place more low) top;
        is = refl;
      })

  pub stands_now : Last nodes a last_now found_now
  stands_now =
      stands_by (deepest (nodes.bitmap node) s start) (fewer (nodes.bitmap node) s start)
      (subst (λ (i : ℕ). HighestBit marks (deepest_position (nodes.bitmap node) s i)) start_is matches)

  -- the same walk from the next node on, or at its end
  module _ (index child : ℕ) (is_index : index ≡ read_group a offset s) (is_child : child ≡ nodes.child node index) where
    at : nodes.child node (read_group a offset s) ≡ child
    at = sym (is_child ∙ ap (nodes.child node) is_index)

    rest_of : Walk
    rest_of = walk_from nodes ss a (offset + s) child found_now

    step : walk_from nodes (s ∷ ss) a offset node going.found ≡ visited (cond (eqb child 0) (record { found = found_now; visits = 0 }) rest_of)
    unfolding rest_of
    step = ap (λ (c : ℕ). visited (cond (eqb c 0) (record { found = found_now; visits = 0 }) (walk_from nodes ss a (offset + s) c found_now))) at

    step_there : visits_nodes nodes (s ∷ ss) a offset node ≡ cond (eqb child 0) true (visits_nodes nodes ss a (offset + s) child)
    step_there = simp (there, at) (by (eqb child 0) (visits_nodes nodes ss a (offset + s) child))
      where
        by : (t u : Bool) → (t || u) ≡ cond t true u
        by true u = refl
        by false u = refl

    pub goes_on : eqb child 0 ≡ false → Going nodes plan a ss (offset + s) child (visits + 1) last_now
    unfolding rest_of
    goes_on more =
        let w : walk_from nodes (s ∷ ss) a offset node going.found ≡ visited rest_of = step ∙ simp more in
        let total = going.total in
        let counts : (walk nodes plan a).visits ≡ visits + suc rest_of.visits = going.counts ∙ ap (λ (x : Walk). visits + x.visits) w in
        record {
          found = found_now;
          stands = stands_now;
          there = going.there ∙ step_there ∙ simp more;
          finds = going.finds ∙ ap (λ (x : Walk). x.found) w;
          counts = omega arith;
          range = (ranged s ss going.range).rest;
          total = omega arith;
        }

    pub ends : eqb child 0 ≡ true → Ends nodes plan a (record { last = last_now; visits = visits + 1 })
    ends none =
        let w : walk_from nodes (s ∷ ss) a offset node going.found ≡ visited (record { found = found_now; visits = 0 }) = step ∙ simp none in
        record {
          there = going.there ∙ step_there ∙ simp none;
          visits = going.counts ∙ ap (λ (x : Walk). visits + x.visits) w;
          last = subst (Last nodes a last_now) (sym (going.finds ∙ ap (λ (x : Walk). x.found) w)) stands_now;
        }

-- ---- as the code takes the steps

module _ {nodes : Nodes} {plan : List ℕ} {a : Bits} {i offset node visits : ℕ} {last : Option Match}
    (going : Going nodes plan a (drop i plan) offset node visits last) (inside : i < length plan) (stride : ℕ) (is_stride : stride ≡ get_or plan i 0) where
  pub at_stride : Going nodes plan a (stride ∷ drop (i + 1) plan) offset node visits last
  at_stride =
      subst (λ (rest : List ℕ). Going nodes plan a rest offset node visits last)
      (at_drop_more (λ (xs : List ℕ). xs) plan i 0 inside ∙ ap (λ (s : ℕ). s ∷ drop (i + 1) plan) (sym is_stride))
      going

  pub stride_range : (1 ≤ stride) × (stride ≤ 6)
  stride_range = let r = ranged stride (drop (i + 1) plan) at_stride.range in (r.low, r.high)

  module _ (index : ℕ) (is_index : index ≡ read_group a offset stride) where
    -- the position of all bits of a stride but the last, in a byte
    abbrev pub first_try : ℕ
    first_try = 1 * 2 ^ (stride - 1) % 2 ^ 8 + index / 2

    first_try_is : first_try ≡ 2 ^ (stride - 1) + read_group a offset stride / 2
    first_try_is = let r = stride_range in ap₂ (λ x y. x + y / 2) (one_shl (stride - 1) 8 (omega arith)) is_index

    long : 2 ^ stride ≡ 2 ^ (stride - 1) * 2
    long = let r = stride_range in ap (λ k. 2 ^ k) (omega arith) ∙ pow-suc 2 (stride - 1)

    small : read_group a offset stride < 2 ^ stride
    small = group_small a offset stride stride_range.1

    at_least : 2 ^ (stride - 1) ≤ first_try
    at_least = let e = first_try_is in omega arith

    below : first_try < 2 ^ stride
    below = let e = first_try_is in let l = long in let h = small in omega arith

    six : 2 ^ stride ≤ 64
    six = pow-le-pow_right {n = 2} (omega arith) {i = stride} {j = 6} stride_range.1

    pub fits : first_try < 256
    fits = let b = below in let h = six in omega arith

    pub a_child : index < 64
    a_child = let b = small in let h = six in omega arith

    pub in_node : first_try < 64
    in_node = let b = below in let h = six in omega arith

    pub matched : (bitmap marks : ℕ) → bitmap ≡ nodes.bitmap node
        → ((s : ℕ) → s ≤ 6 → 2 ^ (s - 1) ≤ first_try → first_try < 2 ^ s → HighestBit marks (deepest_position bitmap s first_try))
        → HighestBit marks (deepest_position (nodes.bitmap node) stride (2 ^ (stride - 1) + read_group a offset stride / 2))
    matched bitmap marks is_bitmap answer =
        subst (HighestBit marks) (ap₂ (λ b k. deepest_position b stride k) is_bitmap first_try_is) (answer stride stride_range.1 at_least below)

-- ---- the route of a match

-- a number has one highest bit
pub one_highest : (v p q : ℕ) → HighestBit v (Some p) → HighestBit v (Some q) → p ≡ q
one_highest v p q (low, high) (least, most) =
    let next = pow-suc 2 q in
    let after = pow-suc 2 p in
    let up : p ≤ q = ⊎_elim (λ lt. absurd (let h = pow-le-pow_right {n = 2} (omega arith) {i = suc q} {j = p} lt in omega arith)) (λ ge. ge) (cases_lt q p) in
    let down : q ≤ p = ⊎_elim (λ lt. absurd (let h = pow-le-pow_right {n = 2} (omega arith) {i = suc p} {j = q} lt in omega arith)) (λ ge. ge) (cases_lt p q) in
    omega arith

-- how many bits a position has
pub bits_of : (p more r : ℕ) (a : Bits) (offset : ℕ) → more < 6 → p ≡ 2 ^ more + read_group a offset more → 2 ^ r ≤ p → p < 2 * 2 ^ r → r ≡ more
bits_of p more r a offset few is low high =
    let small = group_small a offset more (omega arith) in
    one_highest p r more (low, high) (omega arith, omega arith)
