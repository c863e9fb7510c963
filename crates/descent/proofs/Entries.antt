-- What stands first in a node at a row or behind it, and what first above a row, by the halves of the row.
use Rattle.std.proofs.Common.{◌≡◌, ℕ, zero, suc, ◌-◌, ◌/◌, ◌%◌, ◌^◌, ◌<◌, ◌≤◌, true, false, eqb, ltb, List, [], ◌∷◌, ◌++◌, length, take, Some, None, Option, Ok, Err, Result, refl, sym, ap, ◌∙◌, ap₂, subst, append-nil, lt-ltb, le-leb, take_all, ltb-true, ltb-false, eqb-true, arith}
use Rattle.std.proofs.lemmas.Bool.{both_ways}
use Rattle.std.specs.Int.Bits.{bit_and}
use Rattle.std.proofs.lemmas.Nat.Bits.{shr_and_one}
use Rattle.std.specs.Option.{option_map}
use Rattle.bits.specs.Rows.{Bits, number}
use Rattle.bits.proofs.Orders.{holds, fails, decided}
use Rattle.faults.specs.declared.Fault.{Fault}
use Rattle.laws.proofs.Longest.{or_else}
use Rattle.laws.proofs.Trees.{Under, entry_under, here, routes_of}
use Rattle.model.specs.Nodes.{Nodes, entry, hop_at, marked}
use Rattle.model.specs.Places.{position}
use Rattle.model.specs.Routes.{Route, Routes, above, smallest}
use Rattle.nodes.specs.Fields.{is_child, is_hop, read_child, read_hop}
use Rattle.nodes.proofs.Readings.{refused}
use Rattle.walks.specs.Smallest.{child_behind}
use Rattle.walks.proofs.Above.{ahead, ahead_below, ahead_short, behind, entry_passed, order_above}
use Rattle.descent.specs.declared.ascending.Entry.{Entry}
use Rattle.descent.specs.declared.ascending.Entry.TheVariants.{Hop}
use Rattle.descent.specs.declared.ascending.Node.{Node}
use Rattle.descent.specs.Entries.{Finds, Reads, RowAt, entry_of, from_row}
use Rattle.descent.proofs.Rows.{Split}

-- ---- the first of two

smallest_append : (xs ys : Routes) → smallest (xs ++ ys) ≡ or_else (smallest xs) (smallest ys)
smallest_append [] ys = refl
smallest_append (x ∷ xs) ys = refl

module _ (s : ℕ) where
  -- where the first is none the second is taken
  second : (x y z : Option Route) → z ≡ or_else x y → {o : Option Entry} {r : Result (Option Entry) Fault} → o ≡ None → Finds s x (Ok o) → Finds s y r
      → Finds s z r
  second None y z is none found e = e ∙ ap (λ (o : Option Route). Ok (option_map (entry_of s) o)) (sym is)
  second (Some a) y z is none found e = cc

  -- and else the first
  first : (x y z : Option Route) → z ≡ or_else x y → {o : Option Entry} → (o ≡ None → ⊥) → Finds s x (Ok o) → Finds s z (Ok o)
  first None y z is some found = absurd (some (cc))
  first (Some a) y z is some found = found ∙ ap (λ (o : Option Route). Ok (option_map (entry_of s) o)) (sym is)

  -- the same of an equal option
  same : {x z : Option Route} {r : Result (Option Entry) Fault} → z ≡ x → Finds s x r → Finds s z r
  same is found = rw is found

-- ---- what is read in a node

module _ {nodes : Nodes} {below : List ℕ} {node : Node} (reads : Reads nodes below node) where
  -- a child is never refused, nor a hop at a place of the bitmap other than 0
  pub child_granted : (i : ℕ) (f : Fault) → i < 64 → Err f ≡ read_child nodes node.number i → ⊥
  child_granted i f low e =
      let there : is_child nodes node.number i ≡ true = simp (reads.there, lt-ltb i 64 low) in
      both_ways (is_child nodes node.number i) (refused (is_child nodes node.number i) (nodes.child node.number i) f e).0 there

  pub hop_granted : (i : ℕ) (f : Fault) → 0 < i → i < 64 → Err f ≡ read_hop nodes node.number i → ⊥
  hop_granted i f some low e =
      let there : is_hop nodes node.number i ≡ true = simp (reads.there, le-leb 1 i some, lt-ltb i 64 low) in
      both_ways (is_hop nodes node.number i) (refused (is_hop nodes node.number i) (nodes.hop node.number i) f e).0 there

  -- its bitmap tells whether a position is marked
  pub is_marked : (i : ℕ) → bit_and (node.bitmap / 2 ^ i) 1 ≡ 1 → marked (nodes.bitmap node.number) i ≡ true
  unfolding marked
  is_marked i h =
      let one : nodes.bitmap node.number / 2 ^ i % 2 ≡ 1 =
      sym (shr_and_one (nodes.bitmap node.number) i) ∙ ap (λ v. bit_and (v / 2 ^ i) 1) (sym reads.bitmap) ∙ h in
      rw one refl

  pub not_marked : (i : ℕ) → (bit_and (node.bitmap / 2 ^ i) 1 ≡ 1 → ⊥) → marked (nodes.bitmap node.number) i ≡ false
  unfolding marked
  not_marked i h = elim (decided (marked (nodes.bitmap node.number) i)) [
    | holds m ↦
        absurd
        (h
        (ap (λ v. bit_and (v / 2 ^ i) 1) reads.bitmap
        ∙ shr_and_one (nodes.bitmap node.number) i
        ∙ eqb-true (nodes.bitmap node.number / 2 ^ i % 2) 1 m))
    | fails m ↦ m
  ]

-- ---- the first at a row or behind it

module _ (nodes : Nodes) (below : List ℕ) (n s : ℕ) where
  -- what stands at a row or behind it, and in its halves
  abbrev from : ℕ → Bits → Routes
  from l bs = from_row nodes below n l bs

  abbrev left : ℕ → Bits → Routes
  left l bs = from (l - 1) (bs ++ (false ∷ []))

  abbrev right : ℕ → Bits → Routes
  right l bs = from (l - 1) (bs ++ (true ∷ []))

  -- at the row itself, then in its halves
  halved : (l : ℕ) (bs : Bits) → (l ≡ 0 → ⊥) → from l bs ≡ entry bs (hop_at nodes n (position bs)) ++ (left l bs ++ right l bs)
  halved zero bs some = absurd (some refl)
  halved (suc l) bs some =
      let e : l ≡ suc l - 1 = omega arith in
      ap (λ k. entry bs (hop_at nodes n (position bs)) ++ (from k (bs ++ (false ∷ [])) ++ from k (bs ++ (true ∷ [])))) e

  module _ {l r : ℕ} {bs : Bits} (at : RowAt s l r bs) (some : l ≡ 0 → ⊥) where
    -- a hop that is held at the row itself
    pub marked_first : (hop : ℕ) → marked (nodes.bitmap n) r ≡ true → hop ≡ nodes.hop n r → Finds s (smallest (from l bs)) (Ok (Some (Hop r hop)))
    marked_first hop m is =
        let size = at.size in
        let short : ltb (length bs) s ≡ true = lt-ltb (length bs) s (omega arith) in
        let here : marked (nodes.bitmap n) (position bs) ≡ true = ap (marked (nodes.bitmap n)) (sym at.is) ∙ m in
        let opened : option_map (entry_of s) (smallest (from l bs)) ≡ Some (Hop (position bs) (nodes.hop n (position bs))) =
        ap (λ (rs : Routes). option_map (entry_of s) (smallest rs)) (halved l bs some) ∙ simp (here, short) in
        ap Ok (ap₂ (λ i h. Some (Hop i h)) at.is (is ∙ ap (nodes.hop n) at.is) ∙ sym opened)

    -- or else the first in its halves
    unmarked_first : marked (nodes.bitmap n) r ≡ false → smallest (from l bs) ≡ or_else (smallest (left l bs)) (smallest (right l bs))
    unmarked_first m =
        let none : marked (nodes.bitmap n) (position bs) ≡ false = ap (marked (nodes.bitmap n)) (sym at.is) ∙ m in
        let opened : smallest (entry bs (hop_at nodes n (position bs)) ++ (left l bs ++ right l bs)) ≡ smallest (left l bs ++ right l bs) = simp none in
        ap smallest (halved l bs some) ∙ opened ∙ smallest_append (left l bs) (right l bs)

    pub first_left : marked (nodes.bitmap n) r ≡ false → {o : Option Entry} → (o ≡ None → ⊥) → Finds s (smallest (left l bs)) (Ok o)
        → Finds s (smallest (from l bs)) (Ok o)
    first_left m some_left found = first s (smallest (left l bs)) (smallest (right l bs)) (smallest (from l bs)) (unmarked_first m) some_left found

    pub first_right : marked (nodes.bitmap n) r ≡ false → {o : Option Entry} {result : Result (Option Entry) Fault} → o ≡ None
        → Finds s (smallest (left l bs)) (Ok o) → Finds s (smallest (right l bs)) result → Finds s (smallest (from l bs)) result
    first_right m none found rest = second s (smallest (left l bs)) (smallest (right l bs)) (smallest (from l bs)) (unmarked_first m) none found rest

  -- ---- the first above a row

  -- the children behind rows
  abbrev children : Bits → Routes
  children = child_behind nodes below n

  child_under_row : (bs : Bits) → Under bs (children bs)
  unfolding Under
  child_under_row bs = by below
    where
      by : (ss : List ℕ) → Under bs (child_behind nodes ss n bs)
      by [] = tt
      by (t ∷ ts) = elim (decided (eqb (nodes.child n (number bs)) 0)) [
        | holds e ↦ simp e tt
        | fails e ↦ simp e (entry_under bs (Some (nodes.child n (number bs))))
      ]

  child_passed : (bs cs : Bits) → above (children bs) (bs ++ cs) ≡ None
  child_passed bs cs = by below
    where
      by : (ss : List ℕ) → above (child_behind nodes ss n bs) (bs ++ cs) ≡ None
      by [] = refl
      by (t ∷ ts) =
          let c = nodes.child n (number bs) in
          elim (decided (eqb c 0)) [
            | holds e ↦ simp e
            | fails e ↦ simp e (entry_passed bs (Some c) cs)
          ]

  -- what is above a row that ends in the node stands behind it
  stand_behind : (l : ℕ) (bs cs : Bits) → length cs ≤ l → above (from l bs) (bs ++ cs) ≡ behind [] (here nodes n) children l bs cs
  unfolding here routes_of
  stand_behind l bs cs short =
      let o = here nodes n in
      let none : ahead [] o children l bs cs ≡ None = elim (decided (ltb (length cs) l)) [
        | holds e ↦ ahead_short [] o children l bs cs (ltb-true (length cs) l e)
        | fails e ↦
            (let all : take l cs ≡ cs = take_all l cs short in
            ahead_below [] o children l bs cs (ltb-false (length cs) l e)
            ∙ ap (λ (x : Bits). above (children (bs ++ x)) (bs ++ cs)) all
            ∙ ap (λ (x : Bits). above (children (bs ++ cs)) x) (sym (append-nil (bs ++ cs)))
            ∙ child_passed (bs ++ cs) [])
      ] in
      order_above [] o children child_under_row l bs cs ∙ ap (λ t. or_else t (behind [] o children l bs cs)) none

  -- none above the row of a child
  none_above : (l : ℕ) (bs cs : Bits) → l ≡ 0 → length cs ≤ l → above (from l bs) (bs ++ cs) ≡ None
  unfolding behind
  none_above l bs cs none short = subst (λ k. above (from k bs) (bs ++ cs) ≡ None) (sym none) (stand_behind zero bs cs (omega arith))

  -- both halves are above the row itself
  all_above : (l : ℕ) (bs cs : Bits) → (l ≡ 0 → ⊥) → length cs ≡ 0
      → above (from l bs) (bs ++ cs) ≡ or_else (smallest (left l bs)) (smallest (right l bs))
  unfolding behind routes_of here
  all_above zero bs cs some none = absurd (some refl)
  all_above (suc l) bs (c ∷ cs) some none = absurd (omega arith)
  all_above (suc l) bs [] some none =
      let e : l ≡ suc l - 1 = omega arith in
      stand_behind (suc l) bs [] (omega arith)
      ∙ ap (λ k. or_else (smallest (from k (bs ++ (false ∷ [])))) (smallest (from k (bs ++ (true ∷ []))))) e

  -- above one that goes on to the left stands what is above it there, then the right half
  left_above : (l : ℕ) (bs ds : Bits) → (l ≡ 0 → ⊥) → length ds ≤ l - 1
      → above (from l bs) (bs ++ (false ∷ ds)) ≡ or_else (above (left l bs) ((bs ++ (false ∷ [])) ++ ds)) (smallest (right l bs))
  unfolding behind routes_of here
  left_above zero bs ds some short = absurd (some refl)
  left_above (suc l) bs ds some short =
      let e : l ≡ suc l - 1 = omega arith in
      stand_behind (suc l) bs (false ∷ ds) (omega arith)
      ∙ ap (λ t. or_else t (smallest (from l (bs ++ (true ∷ []))))) (sym (stand_behind l (bs ++ (false ∷ [])) ds (omega arith)))
      ∙ ap (λ k. or_else (above (from k (bs ++ (false ∷ []))) ((bs ++ (false ∷ [])) ++ ds)) (smallest (from k (bs ++ (true ∷ []))))) e

  -- above one that goes on to the right, what is above it there
  right_above : (l : ℕ) (bs ds : Bits) → (l ≡ 0 → ⊥) → length ds ≤ l - 1
      → above (from l bs) (bs ++ (true ∷ ds)) ≡ above (right l bs) ((bs ++ (true ∷ [])) ++ ds)
  unfolding behind routes_of here
  right_above zero bs ds some short = absurd (some refl)
  right_above (suc l) bs ds some short =
      let e : l ≡ suc l - 1 = omega arith in
      stand_behind (suc l) bs (true ∷ ds) (omega arith)
      ∙ sym (stand_behind l (bs ++ (true ∷ [])) ds (omega arith))
      ∙ ap (λ k. above (from k (bs ++ (true ∷ []))) ((bs ++ (true ∷ [])) ++ ds)) e

  module _ (l : ℕ) (bs cs : Bits) where
    -- as the code finds it: above the row of a child
    pub next_none : l ≡ 0 → length cs ≤ l → Finds s (above (from l bs) (bs ++ cs)) (Ok None)
    next_none none short = same s (none_above l bs cs none short) refl

    -- above the row itself
    module _ (some : l ≡ 0 → ⊥) (none : length cs ≡ 0) where
      pub all_left : {o : Option Entry} → (o ≡ None → ⊥) → Finds s (smallest (left l bs)) (Ok o) → Finds s (above (from l bs) (bs ++ cs)) (Ok o)
      all_left some_left found =
          first s (smallest (left l bs)) (smallest (right l bs)) (above (from l bs) (bs ++ cs)) (all_above l bs cs some none) some_left found

      pub all_right : {o : Option Entry} {result : Result (Option Entry) Fault} → o ≡ None → Finds s (smallest (left l bs)) (Ok o)
          → Finds s (smallest (right l bs)) result → Finds s (above (from l bs) (bs ++ cs)) result
      all_right none_left found rest =
          second s (smallest (left l bs)) (smallest (right l bs)) (above (from l bs) (bs ++ cs)) (all_above l bs cs some none) none_left found rest

    -- above one that goes on to the left
    module _ (some : l ≡ 0 → ⊥) {more v : ℕ} (within : more ≤ l - 1) (split : Split false more v cs) where
      abbrev next_left : Option Route
      next_left = above (left l bs) ((bs ++ (false ∷ [])) ++ split.rest)

      low : above (from l bs) (bs ++ cs) ≡ or_else next_left (smallest (right l bs))
      low =
          let size = split.size in
          ap (λ (x : Bits). above (from l bs) (bs ++ x)) split.is ∙ left_above l bs split.rest some (omega arith)

      pub low_left : {o : Option Entry} → (o ≡ None → ⊥) → Finds s next_left (Ok o) → Finds s (above (from l bs) (bs ++ cs)) (Ok o)
      low_left some_left found = first s next_left (smallest (right l bs)) (above (from l bs) (bs ++ cs)) low some_left found

      pub low_right : {o : Option Entry} {result : Result (Option Entry) Fault} → o ≡ None → Finds s next_left (Ok o)
          → Finds s (smallest (right l bs)) result → Finds s (above (from l bs) (bs ++ cs)) result
      low_right none_left found rest = second s next_left (smallest (right l bs)) (above (from l bs) (bs ++ cs)) low none_left found rest

    -- above one that goes on to the right
    pub high : (l ≡ 0 → ⊥) → {more v : ℕ} → more ≤ l - 1 → (split : Split true more v cs) → {result : Result (Option Entry) Fault}
        → Finds s (above (right l bs) ((bs ++ (true ∷ [])) ++ split.rest)) result → Finds s (above (from l bs) (bs ++ cs)) result
    high some within split found =
        let size = split.size in
        same s (ap (λ (x : Bits). above (from l bs) (bs ++ x)) split.is ∙ right_above l bs split.rest some (omega arith)) found
