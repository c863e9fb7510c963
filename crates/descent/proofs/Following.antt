-- From what stands first in a node on: to the route whose hop it is, or down to the child.
use Rattle.std.proofs.Common.{◌≡◌, ℕ, zero, suc, ◌+◌, ◌^◌, ◌<◌, ◌≤◌, Bool, true, false, not, eqb, ltb, List, [], ◌∷◌, ◌++◌, length, Some, None, Option, Ok, Result, IfSome, refl, sym, ap, ◌∙◌, ap₂, subst, pow_pos, length-append, le-ltb, ltb-false, arith}
use Rattle.std.specs.Option.{option_map}
use lib.Dec.{eqb-suc-zero}
use Rattle.bits.specs.Order.{before}
use Rattle.bits.specs.Rows.{Bits, number}
use Rattle.bits.proofs.Orders.{holds, fails, decided}
use Rattle.faults.specs.declared.Fault.{Fault}
use Rattle.model.specs.Nodes.{Nodes, entry, hop_at}
use Rattle.model.specs.Outcomes.{outcome}
use Rattle.model.specs.Places.{position}
use Rattle.model.specs.Plans.{in_range, sum}
use Rattle.laws.proofs.Plans.{ranged}
use Rattle.model.specs.Routes.{Route, Routes, above, smallest}
use Rattle.nodes.specs.Fields.{is_node}
use Rattle.walks.specs.Smallest.{child_behind, follow_up, smallest_from, standing}
use Rattle.descent.specs.declared.ascending.Entry.{Entry}
use Rattle.descent.specs.declared.ascending.Entry.TheVariants.{Child, Hop}
use Rattle.descent.specs.declared.ascending.Node.{Node}
use Rattle.descent.specs.Entries.{First, FirstIn, IsEntry, Reads, entry_of, from_row, leads}
use Rattle.descent.proofs.Rows.{root_at}

-- ---- a node that was read

-- a list of strides is not empty where there are strides to come
leads_on : (below : List ℕ) → not (eqb (length below) 0) ≡ leads below
leads_on [] = refl
leads_on (t ∷ ts) = ap not (eqb-suc-zero (length ts))

module _ {nodes : Nodes} (below : List ℕ) {node : Node} {n s : ℕ} {on : Bool} (there : is_node nodes n ≡ true)
    (is : node ≡ record { number = n; bitmap = nodes.bitmap n; stride = s; leads_on = on }) (on_is : on ≡ not (eqb (length below) 0)) where
  -- it is one of the memory's
  pub was_read : Reads nodes below node
  was_read =
      subst (λ (x : Node). Reads nodes below x) (sym is)
      (record { there = there; bitmap = refl; leads_on = on_is ∙ leads_on below })

  -- what stands first in it
  pub first_read : {result : Result (Option Entry) Fault} → First nodes node s 1 result → FirstIn nodes below n s result
  first_read {result} first =
      let reads : Reads nodes below (record { number = n; bitmap = nodes.bitmap n; stride = s; leads_on = on }) =
      record { there = there; bitmap = refl; leads_on = on_is ∙ leads_on below } in
      let found = subst (λ (x : Node). First nodes x s 1 result) is first below [] reads (root_at s) in
      rw found (there, refl)

-- ---- what stands in a node has no more bits than its stride

-- each prefix, and that of a route that was found
abbrev Short : ℕ → Routes → Type 0
Short s [] = Unit {0}
Short s (r ∷ rs) = (length r.prefix ≤ s) × Short s rs

abbrev pub IsShort : ℕ → Option Route → Type 0
IsShort s found = IfSome found (λ r. length r.prefix ≤ s)

short_append : (s : ℕ) (xs ys : Routes) → Short s xs → Short s ys → Short s (xs ++ ys)
short_append s [] ys h k = k
short_append s (x ∷ xs) ys h k = (h.0, short_append s xs ys h.1 k)

short_entry : (s : ℕ) (bs : Bits) (o : Option ℕ) → length bs ≤ s → Short s (entry bs o)
short_entry s bs None h = tt
short_entry s bs (Some x) h = (h, tt)

short_child : (nodes : Nodes) (below : List ℕ) (n s : ℕ) (bs : Bits) → length bs ≤ s → Short s (child_behind nodes below n bs)
short_child nodes [] n s bs h = tt
short_child nodes (t ∷ ts) n s bs h = elim (decided (eqb (nodes.child n (number bs)) 0)) [
  | holds e ↦ simp e tt
  | fails e ↦ simp e (h, tt)
]

short_row : (nodes : Nodes) (below : List ℕ) (n s l : ℕ) (bs : Bits) → length bs + l ≡ s → Short s (from_row nodes below n l bs)
short_row nodes below n s zero bs size = short_child nodes below n s bs (omega arith)
short_row nodes below n s (suc l) bs size =
    let half = λ (b : Bool). short_row nodes below n s l (bs ++ (b ∷ [])) (let longer = length-append bs (b ∷ []) in omega arith) in
    short_append s (entry bs (hop_at nodes n (position bs))) _ (short_entry s bs (hop_at nodes n (position bs)) (omega arith))
    (short_append s (from_row nodes below n l (bs ++ (false ∷ []))) _ (half false) (half true))

smallest_short : (s : ℕ) (rs : Routes) → Short s rs → IsShort s (smallest rs)
smallest_short s [] h = tt
smallest_short s (r ∷ rs) h = h.0

above_short : (s : ℕ) (rs : Routes) (p : Bits) → Short s rs → IsShort s (above rs p)
above_short s [] p h = tt
above_short s (r ∷ rs) p h = elim (decided (before p r.prefix)) [
  | holds e ↦ simp e h.0
  | fails e ↦ simp e (above_short s rs p h.1)
]

module _ (nodes : Nodes) (below : List ℕ) (n s : ℕ) where
  -- the first in a node, and the first above a row
  pub first_short : IsShort s (smallest (standing nodes below n s))
  first_short = smallest_short s (standing nodes below n s) (short_row nodes below n s s [] (omega arith))

  pub next_short : (x : Bits) → IsShort s (above (standing nodes below n s) x)
  next_short x = above_short s (standing nodes below n s) x (short_row nodes below n s s [] (omega arith))

-- no entry is the hop at position 0
pub is_entry : (s : ℕ) (found : Option Route) (e : Option Entry) → e ≡ option_map (entry_of s) found → IsEntry e
is_entry s None e is = rw is tt
is_entry s (Some r) e is = rw is (elim (decided (ltb (length r.prefix) s)) [
  | holds h ↦ simp h (let p : 0 < 2 ^ length r.prefix = pow_pos (length r.prefix) in omega arith)
  | fails h ↦ simp h tt
])

-- ---- down to a child

-- a route that was found stands for a child
pub record ChildOf (s : ℕ) (found : Option Route) (i n : ℕ) : Type 0 where
  pub route : Route
  pub is : found ≡ Some route
  pub size : length route.prefix ≡ s
  pub spells : number route.prefix ≡ i
  pub node : route.hop ≡ n

pub child_of : (s : ℕ) (found : Option Route) (i n : ℕ) → Some (Child i n) ≡ option_map (entry_of s) found → IsShort s found → ChildOf s found i n
child_of s None i n is short = cc
child_of s (Some r) i n is short = elim (decided (ltb (length r.prefix) s)) [
  | holds h ↦ (let wrong : Some (Child i n) ≡ Some (Hop (position r.prefix) r.hop) = simp h at is in cc)
  | fails h ↦
      (let same : Some (Child i n) ≡ Some (Child (number r.prefix) r.hop) = simp h at is in
      let long = ltb-false (length r.prefix) s h in
      record { route = r; is = refl; size = omega arith; spells = cc; node = cc })
]

module _ {T : Type 0} (meant : T → Option Route) (nodes : Nodes) (below : List ℕ) (s : ℕ) (path : Bits) where
  -- the way goes on from what stands first in it
  pub through : (n : ℕ) (r : Result T Fault) → is_node nodes n ≡ true
      → outcome meant r ≡ follow_up (smallest_from nodes below) s path (smallest (standing nodes below n s))
      → outcome meant r ≡ smallest_from nodes (s ∷ below) n path
  through n r there e = simp there e

  -- from a child on
  pub from_child : {i n : ℕ} {found : Option Route} {further : Bits} (r : Result T Fault) (child : ChildOf s found i n)
      → further ≡ path ++ child.route.prefix → outcome meant r ≡ smallest_from nodes below n further
      → outcome meant r ≡ follow_up (smallest_from nodes below) s path found
  from_child {i} {n} {found} {further} r child on e =
      let size = child.size in
      let long : ltb (length child.route.prefix) s ≡ false = le-ltb (length child.route.prefix) s (omega arith) in
      let down : follow_up (smallest_from nodes below) s path (Some child.route) ≡ smallest_from nodes below child.route.hop (path ++ child.route.prefix) = simp long in
      e
      ∙ ap₂ (λ k (q : Bits). smallest_from nodes below k q) (sym child.node) on
      ∙ sym (ap (follow_up (smallest_from nodes below) s path) child.is ∙ down)

-- ---- the strides to come

-- the first of them, and those behind it
pub record Strides (xs : List ℕ) (s : ℕ) (ss : List ℕ) : Type 0 where
  pub low : 1 ≤ s
  pub high : s ≤ 6
  pub range : in_range ss ≡ true
  pub total : sum xs ≡ s + sum ss

pub strides : (xs : List ℕ) (s : ℕ) (ss : List ℕ) → xs ≡ s ∷ ss → in_range xs ≡ true → Strides xs s ss
strides xs s ss is range =
    let r = ranged s ss (ap in_range (sym is) ∙ range) in
    record { low = r.low; high = r.high; range = r.rest; total = ap sum is }

-- the entry of a route that was found is none at position 0
pub found_entry : (s : ℕ) (found : Option Route) {e : Option Entry} → ◌≡◌ {A = Result (Option Entry) Fault} (Ok e) (Ok (option_map (entry_of s) found))
    → (e ≡ option_map (entry_of s) found) × IsEntry e
found_entry s found {e} is = let same : e ≡ option_map (entry_of s) found = cc in (same, is_entry s found e same)
