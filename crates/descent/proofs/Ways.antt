-- How the bits of a prefix lead through the nodes, and what is above them from a node on.
use Rattle.std.proofs.Common.{◌≡◌, ℕ, ◌+◌, ◌-◌, ◌^◌, ◌<◌, ◌≤◌, min, Bool, true, false, not, cond, eqb, ltb, List, ◌∷◌, ◌++◌, length, take, drop, Some, None, Option, Ok, Err, Result, refl, sym, ap, ◌∙◌, ap₂, subst, length-take, length-drop, take-add, take-take, drop-drop, lt-ltb, le-ltb, ltb-true, ltb-false, arith}
use Rattle.std.proofs.lemmas.Bool.{eq-eqb, ne_eqb}
use Rattle.std.proofs.Math.Nat.{pow-le-pow_right}
use Rattle.std.proofs.lemmas.List.{drop-take, take_min}
use Rattle.std.specs.Option.{option_map}
use Rattle.bits.specs.Rows.{Bits, number, read_group}
use Rattle.bits.proofs.Groups.{read_inside}
use Rattle.bits.proofs.Padded.{group_small}
use Rattle.bits.proofs.Orders.{holds, fails, decided, number_lt}
use Rattle.faults.specs.declared.Fault.{Fault}
use Rattle.faults.specs.Numbers.{number_of}
use Rattle.model.specs.Nodes.{Nodes}
use Rattle.model.specs.Outcomes.{Outcome, granted, outcome, refused}
use Rattle.model.specs.Routes.{Route, above}
use Rattle.nodes.specs.Fields.{is_node}
use Rattle.walks.specs.Smallest.{above_from, follow_up, smallest_from, standing, unless_found}
use Rattle.descent.specs.declared.ascending.Node.{Node}
use Rattle.descent.specs.declared.ascending.Way.{Way}
use Rattle.descent.specs.Entries.{LeadsBy}
use Rattle.descent.proofs.Following.{was_read}

-- ---- the bits within a node

-- behind o bits of the first ones, the next s, or those that are left
module _ (a : Bits) (o len s : ℕ) (from : o ≤ len) (to : len ≤ length a) where
  abbrev row_here : Bits
  row_here = take s (drop o (take len a))

  -- they are the first that are left
  left : drop o (take len a) ≡ take (len - o) (drop o a)
  left = let e : len ≡ o + (len - o) = omega arith in ap (λ k. drop o (take k a)) e ∙ drop-take o (len - o) a

  -- how many they are, and what number they form
  row_size : length row_here ≡ min (len - o) s
  row_size =
      let whole = length-take s (drop o (take len a)) in
      let rest = length-drop o (take len a) in
      let front = length-take len a in
      omega arith

  row_is : row_here ≡ take (min (len - o) s) (drop o a)
  row_is =
      let rest = take (len - o) (drop o a) in
      let size : length rest ≡ len - o = let t = length-take (len - o) (drop o a) in let d = length-drop o a in omega arith in
      let same : min s (length rest) ≡ min (len - o) s = omega arith in
      ap (take s) left ∙ sym (take_min s rest) ∙ ap (λ k. take k rest) same ∙ take-take (min (len - o) s) (len - o) (drop o a) (omega arith)

  row_spells : s ≤ 6 → number row_here ≡ read_group a o (min (len - o) s)
  row_spells few = ap number row_is ∙ sym (read_inside a o (min (len - o) s) (omega arith) (omega arith))

  -- as the code finds them
  module _ {more given : ℕ} (few : s ≤ 6) (more_is : more ≡ min (len - o) given) (given_is : given ≡ s) where
    more_here : more ≡ min (len - o) s
    more_here = more_is ∙ ap (min (len - o)) given_is

    pub row_fits : length row_here ≡ more
    row_fits = row_size ∙ sym more_here

    pub row_reads : {v : ℕ} → v ≡ read_group a o more → number row_here ≡ v
    row_reads is = row_spells few ∙ sym (is ∙ ap (read_group a o) more_here)

  -- where they fill the stride the path goes on with them
  further : (more : ℕ) → more ≡ s → length row_here ≡ s → take (o + more) a ≡ take o a ++ row_here
  further more e size =
      let whole = row_size in
      let all : min (len - o) s ≡ more = omega arith in
      take-add o more a ∙ ap (λ (x : Bits). take o a ++ x) (ap (λ k. take k (drop o a)) (sym all) ∙ sym row_is)

  -- and those that remain are behind it
  remaining : (more : ℕ) → more ≡ s → drop (o + more) (take len a) ≡ drop s (drop o (take len a))
  remaining more e = ap (λ k. drop (o + k) (take len a)) e ∙ sym (drop-drop s o (take len a))

-- the number of a group stands for a child
pub group_child : (a : Bits) (place len v : ℕ) → len ≤ 6 → v ≡ read_group a place len → v < 64
group_child a place len v few is =
    let small = group_small a place len few in
    let power = pow-le-pow_right {n = 2} (omega arith) {i = len} {j = 6} few in
    omega arith

-- ---- a node that bits lead through

-- as the code reads it
pub enters : {nodes : Nodes} {below : List ℕ} {node : Node} {n s : ℕ} {on : Bool} → is_node nodes n ≡ true
    → node ≡ record { number = n; bitmap = nodes.bitmap n; stride = s; leads_on = on } → on ≡ not (eqb (length below) 0)
    → (x : Bits) (more bits child : ℕ) → length x ≡ more → number x ≡ bits
    → ◌≡◌ {A = Result ℕ Fault} (Ok child) (Ok (cond (ltb more node.stride) 0 (nodes.child node.number bits)))
    → LeadsBy nodes below n s x (record { node = node; bits = bits; more = more; child = child })
enters {nodes} {below} {node} {n} {s} {on} there is on_is x more bits child size spells found =
    let same : child ≡ cond (ltb more node.stride) 0 (nodes.child node.number bits) = cc in
    record {
      reads = was_read below there is on_is;
      node = ap (λ (y : Node). y.number) is;
      stride = ap (λ (y : Node). y.stride) is;
      size = size;
      spells = spells;
      child =
          same
          ∙ ap (λ (y : Node). cond (ltb more y.stride) 0 (nodes.child y.number bits)) is
          ∙ ap₂ (λ k v. cond (ltb k s) 0 (nodes.child n v)) (sym size) (sym spells);
    }

-- the number of the bits of a row is small
pub small_row : {nodes : Nodes} {below : List ℕ} {n s : ℕ} {x : Bits} {way : Way} → LeadsBy nodes below n s x way → way.bits < 2 ^ way.more
small_row {nodes} {below} {n} {s} {x} {way} leads =
    let small = number_lt x in
    let power : 2 ^ length x ≡ 2 ^ way.more = ap (λ k. 2 ^ k) leads.size in
    let spells = leads.spells in
    omega arith

-- ---- what was found below a child, or else what comes next

module _ {H : Type 0} (f : H → Route) (below here : Outcome (Option Route)) where
  -- none was found
  pass_none : {o : Option H} {r : Outcome (Option Route)} → o ≡ None → granted (option_map f o) ≡ below → r ≡ here → r ≡ unless_found below here
  pass_none {o} {r} none e next =
      let nothing : granted None ≡ below = ap (λ (x : Option H). granted (option_map f x)) (sym none) ∙ e in
      next ∙ ap (λ (b : Outcome (Option Route)). unless_found b here) nothing

  -- some was
  pass_found : {o : Option H} → (o ≡ None → ⊥) → granted (option_map f o) ≡ below → granted (option_map f o) ≡ unless_found below here
  pass_found {o} some e = by o some e
    where
      by : (o : Option H) → (o ≡ None → ⊥) → granted (option_map f o) ≡ below → granted (option_map f o) ≡ unless_found below here
      by None some e = absurd (some refl)
      by (Some h) some e = ap (λ (b : Outcome (Option Route)). unless_found b here) e

  -- a node below is none of the memory's
  pass_refused : {r : Result (Option H) Fault} {x : Fault} → r ≡ Err x → refused (number_of x.refusal) x.layer x.place ≡ below
      → outcome (option_map f) r ≡ unless_found below here
  pass_refused {r} {x} is e = ap (outcome (option_map f)) is ∙ ap (λ (b : Outcome (Option Route)). unless_found b here) e

-- ---- from a node on

module _ {nodes : Nodes} {below : List ℕ} {n s : ℕ} (path bs : Bits) {way : Way} (leads : LeadsBy nodes below n s (take s bs) way) where
  -- the child behind the bits of the stride
  abbrev child : ℕ
  child = nodes.child n (number (take s bs))

  -- what comes next in the node, and what is above the bits below the child
  abbrev next : Outcome (Option Route)
  next = follow_up (smallest_from nodes below) s path (above (standing nodes below n s) (take s bs))

  abbrev down : Outcome (Option Route)
  down = above_from nodes below way.child (path ++ take s bs) (drop s bs)

  there : is_node nodes n ≡ true
  there = subst (λ k. is_node nodes k ≡ true) leads.node leads.reads.there

  -- bits that fill the stride lead to the child
  filled : ltb (length bs) s ≡ false → (length (take s bs) ≡ s) × (way.child ≡ child)
  filled e =
      let long = ltb-false (length bs) s e in
      let whole = length-take s bs in
      let size : length (take s bs) ≡ s = omega arith in
      let full : ltb (length (take s bs)) s ≡ false = le-ltb (length (take s bs)) s (omega arith) in
      (size, leads.child ∙ simp full)

  -- where there is no child on the way, what comes next in the node
  stops : way.child ≡ 0 → next ≡ above_from nodes (s ∷ below) n path bs
  stops none = elim (decided (ltb (length bs) s)) [
    | holds e ↦ simp (there, e)
    | fails e ↦
        (let zero_child : eqb child 0 ≡ true = eq-eqb child 0 (sym (filled e).1 ∙ none) in
        simp (there, e, zero_child))
  ]

  -- there is a child on the way
  record Goes : Type 0 where
    pub size : length (take s bs) ≡ s
    pub is : unless_found down next ≡ above_from nodes (s ∷ below) n path bs

  -- where there is one, what is below it, or else what comes next
  goes : (way.child ≡ 0 → ⊥) → Goes
  goes some = elim (decided (ltb (length bs) s)) [
    | holds e ↦
        (let short = ltb-true (length bs) s e in
        let whole = length-take s bs in
        let part : ltb (length (take s bs)) s ≡ true = lt-ltb (length (take s bs)) s (omega arith) in
        absurd (some (leads.child ∙ simp part)))
    | fails e ↦
        (let full = filled e in
        let other : eqb child 0 ≡ false = ne_eqb child 0 (λ (z : child ≡ 0). some (full.1 ∙ z)) in
        record {
          size = full.0;
          is =
              ap (λ k. unless_found (above_from nodes below k (path ++ take s bs) (drop s bs)) next) full.1
              ∙ simp (there, e, other);
        })
  ]

-- ---- as the code goes down, behind o of the first bits of an address; the memory M that it reads then is still N

module _ {N : Nodes} {xs below : List ℕ} {n s : ℕ} (parts : xs ≡ s ∷ below) (a : Bits) (o len : ℕ) (from : o ≤ len) (to : len ≤ length a) {way : Way}
    (leads : LeadsBy N below n s (take s (drop o (take len a))) way) where
  -- the bits behind the path
  abbrev rest : Bits
  rest = drop o (take len a)

  -- what the code is to answer
  abbrev pub Answer : Outcome (Option Route) → Type 0
  Answer x = x ≡ above_from N xs n (take o a) rest

  -- what it is answered by what comes next in the node, and from below the child
  abbrev pub Follows : Nodes → Outcome (Option Route) → Type 0
  Follows M x =
      x
      ≡ follow_up (smallest_from M below) way.node.stride (take o a) (above (standing M below way.node.number way.node.stride) (take s rest))

  abbrev pub Lower : Nodes → Outcome (Option Route) → Type 0
  Lower M x = x ≡ above_from M below way.child (take (o + way.more) a) (drop (o + way.more) (take len a))

  answer : {x : Outcome (Option Route)} → x ≡ above_from N (s ∷ below) n (take o a) rest → Answer x
  answer {x} e = subst (λ (ys : List ℕ). x ≡ above_from N ys n (take o a) rest) (sym parts) e

  next_is : (M : Nodes) → M ≡ N → {x : Outcome (Option Route)} → Follows M x → x ≡ next (take o a) rest leads
  next_is M same {x} follows =
      subst (λ (m : Nodes). Follows m x) same follows
      ∙ ap₂ (λ k t. follow_up (smallest_from N below) t (take o a) (above (standing N below k t) (take s rest))) leads.node leads.stride

  down_is : (M : Nodes) → M ≡ N → {x : Outcome (Option Route)} → length (take s rest) ≡ s → Lower M x → x ≡ down (take o a) rest leads
  down_is M same {x} size lower =
      let all : way.more ≡ s = sym leads.size ∙ size in
      subst (λ (m : Nodes). Lower m x) same lower
      ∙ ap₂ (λ (p q : Bits). above_from N below way.child p q) (further a o len s from to way.more all size)
      (remaining a o len s from to way.more all)

  -- where there is no child on the way
  pub stopped : (M : Nodes) → M ≡ N → way.child ≡ 0 → {x : Outcome (Option Route)} → Follows M x → Answer x
  stopped M same none follows = answer (next_is M same follows ∙ stops (take o a) rest leads none)

  -- where there is one, by what was found below it
  module _ {H : Type 0} (f : H → Route) (M : Nodes) (same : M ≡ N) (some : way.child ≡ 0 → ⊥) where
    abbrev on : Goes (take o a) rest leads
    on = goes (take o a) rest leads some

    pub refused_below : {r : Result (Option H) Fault} {e : Fault} → r ≡ Err e → Lower M (refused (number_of e.refusal) e.layer e.place)
        → Answer (outcome (option_map f) r)
    refused_below is lower =
        answer (pass_refused f (down (take o a) rest leads) (next (take o a) rest leads) is (down_is M same on.size lower) ∙ on.is)

    pub found_below : {found : Option H} → (found ≡ None → ⊥) → Lower M (granted (option_map f found)) → Answer (granted (option_map f found))
    found_below some_below lower =
        answer (pass_found f (down (take o a) rest leads) (next (take o a) rest leads) some_below (down_is M same on.size lower) ∙ on.is)

    pub none_below : {found : Option H} → found ≡ None → Lower M (granted (option_map f found)) → (M' : Nodes) → M' ≡ N
        → {x : Outcome (Option Route)} → Follows M' x → Answer x
    none_below none lower M' same' follows =
        answer
        (pass_none f (down (take o a) rest leads) (next (take o a) rest leads) none (down_is M same on.size lower) (next_is M' same' follows)
        ∙ on.is)
