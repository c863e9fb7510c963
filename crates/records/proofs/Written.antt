-- A child or a hop that is written in the record of a node is what the memory holds there then; all else reads as before.
use Rattle.std.proofs.Common.{◌≡◌, ℕ, ◌+◌, ◌-◌, ◌<◌, ◌≤◌, min, Bool, true, false, cond, ◌&&◌, List, length, set, eqb, sym, refl, ap, ◌∙◌, arith, length-set}
use Rattle.std.specs.Prelude.{nat_lt, nat_le, slice_index_or, slice_index, slice_set}
use Rattle.std.proofs.lemmas.List.{get_or-set_other, get_or_default}
use Rattle.std.proofs.lemmas.Grind.{get_or-set_at}
use Rattle.std.proofs.lemmas.Bool.{and_from, and_parts, eqb-true, eq-eqb, leb-true, le-leb, lt-ltb, ne_eqb}
use Rattle.bits.proofs.Orders.{decided, holds, fails}
use Rattle.model.specs.Nodes.{Nodes}
use Rattle.model.specs.Routes.{last_hop}
use Rattle.nodes.specs.Fields.{after_child, after_hop, changed_at, is_child, is_hop, is_node, fits_child, fits_hop, most_nodes, with_child, with_hop}
use Rattle.nodes.proofs.Guards.{guarded}
use Rattle.records.specs.Held.{blank, nodes_of, record_at, size_of}
use Rattle.records.specs.declared.Record.{Record}

-- both tests of a place pass only there
module _ (k j n i : ℕ) (e : (eqb k n && eqb j i) ≡ true) where
  same_node : k ≡ n
  same_node = eqb-true k n ((and_parts (eqb k n) (eqb j i) e).0)

  same_place : j ≡ i
  same_place = eqb-true j i ((and_parts (eqb k n) (eqb j i) e).1)

-- a record put in the place of another
module _ (xs : List Record) (n : ℕ) (new : Record) (inside : n < length xs) where
  abbrev put : List Record
  put = slice_set xs n new

  same_size : size_of put ≡ size_of xs
  same_size = ap (λ k. min k most_nodes) (length-set xs n new)

  here : (k : ℕ) → k ≡ n → record_at put k ≡ new
  here k e = get_or-set_at xs n k new blank e inside

  elsewhere : (k : ℕ) → eqb k n ≡ false → record_at put k ≡ record_at xs k
  elsewhere k e = get_or-set_other xs n k new blank (λ is. let t = eq-eqb k n is in cc)

  -- what does not change in the record reads as before everywhere
  kept : {T : Type 0} (f : Record → T) → f new ≡ f (record_at xs n) → (k : ℕ) → f (record_at put k) ≡ f (record_at xs k)
  kept f same k = elim (decided (eqb k n)) [
    | holds e ↦ (let is = eqb-true k n e in ap f (here k is) ∙ same ∙ ap (λ q. f (record_at xs q)) (sym is))
    | fails e ↦ ap f (elsewhere k e)
  ]

  -- one number of a list in the record changes, and no other
  listed : (f : Record → List ℕ) (i v : ℕ) → f new ≡ slice_set (f (record_at xs n)) i v → i < length (f (record_at xs n)) → (k j : ℕ)
      → slice_index (f (record_at put k)) j ≡ cond (eqb k n && eqb j i) v (slice_index (f (record_at xs k)) j)
  listed f i v set_so short k j = elim (decided (eqb k n)) [
    | holds e ↦
        (let is = eqb-true k n e in
        let now : slice_index (f (record_at put k)) j ≡ slice_index (slice_set (f (record_at xs n)) i v) j = ap (λ r. slice_index (f r) j) (here k is) ∙ ap (λ l. slice_index l j) set_so in
        let was : slice_index (f (record_at xs k)) j ≡ slice_index (f (record_at xs n)) j = ap (λ q. slice_index (f (record_at xs q)) j) is in
        elim (decided (eqb j i)) [
          | holds d ↦ simp (e, d) (now ∙ get_or-set_at (f (record_at xs n)) i j v 0 (eqb-true j i d) short)
          | fails d ↦ simp (e, d) (now ∙ get_or-set_other (f (record_at xs n)) i j v 0 (λ q. let t = eq-eqb j i q in cc) ∙ sym was)
        ])
    | fails e ↦ simp e (ap (λ r. slice_index (f r) j) (elsewhere k e))
  ]

-- one position back, as the hops stand in a record
back : (j i : ℕ) → 1 ≤ j → 1 ≤ i → eqb (j - 1) (i - 1) ≡ eqb j i
back j i some is = elim (decided (eqb j i)) [
  | holds e ↦ (let d = eqb-true j i e in eq-eqb (j - 1) (i - 1) (omega arith) ∙ sym e)
  | fails e ↦ ne_eqb (j - 1) (i - 1) (λ d. let t = eq-eqb j i (omega arith) in cc) ∙ sym e
]

module _ (xs : List Record) (n i v : ℕ) (r : Record) (at : r ≡ slice_index_or xs n r) (some : n < size_of xs) where
  within : n < length xs
  within = omega arith

  was : record_at xs n ≡ r
  was = get_or_default xs n blank r within ∙ sym at

  node : is_node (nodes_of xs) n ≡ true
  node = lt-ltb n (size_of xs) some

  -- a child is written
  module _ (short : i < 64) (fits : v < size_of xs) (long : length r.children ≡ 64) where
    abbrev with_its_child : Record
    with_its_child = record { bitmap = r.bitmap; count = r.count; children = slice_set r.children i v; hops = r.hops }

    child_is : (k j : ℕ) → (nodes_of (slice_set xs n with_its_child)).child k j ≡ changed_at (nodes_of xs).child n i v k j
    child_is k j =
        ap (λ z. cond (nat_lt k z && nat_lt j 64) (slice_index (record_at (put xs n with_its_child within) k).children j) 0) (same_size xs n with_its_child within)
        ∙ guarded (nat_lt k (size_of xs) && nat_lt j 64) (eqb k n && eqb j i) _ _ v
        (λ g. listed xs n with_its_child within (λ x. x.children) i v (ap (λ x. slice_set x.children i v) (sym was))
        (let l = ap (λ x. length x.children) was in omega arith) k j)
        (λ e. let a = same_node k j n i e in let b = same_place k j n i e in and_from _ _ (lt-ltb k (size_of xs) (omega arith)) (lt-ltb j 64 (omega arith)))

    pub child_written : nodes_of (slice_set xs n with_its_child) ≡ after_child (nodes_of xs) n i v
    child_written =
        let is : nodes_of (slice_set xs n with_its_child) ≡ with_child (nodes_of xs) n i v = λ t. record {
          size = same_size xs n with_its_child within t;
          bitmap = λ k. cond (nat_lt k (same_size xs n with_its_child within t)) (kept xs n with_its_child within (λ x. x.bitmap) (ap (λ x. x.bitmap) (sym was)) k t) 0;
          count = λ k. cond (nat_lt k (same_size xs n with_its_child within t)) (kept xs n with_its_child within (λ x. x.count) (ap (λ x. x.count) (sym was)) k t) 0;
          child = λ k j. child_is k j t;
          hop = λ k j. cond (nat_lt k (same_size xs n with_its_child within t) && (nat_le 1 j && nat_lt j 64))
              (kept xs n with_its_child within (λ x. slice_index x.hops (j - 1)) (ap (λ x. slice_index x.hops (j - 1)) (sym was)) k t) 0;
        } in
        is ∙ sym (ap (λ b. cond b (with_child (nodes_of xs) n i v) (nodes_of xs))
        (and_from _ _ (and_from _ _ node (lt-ltb i 64 short)) (lt-ltb v (size_of xs) fits)))

  -- a hop is written
  module _ (some_bit : 1 ≤ i) (short : i < 64) (fits : v ≤ last_hop) (long : length r.hops ≡ 63) where
    abbrev with_its_hop : Record
    with_its_hop = record { bitmap = r.bitmap; count = r.count; children = r.children; hops = slice_set r.hops (i - 1) v }

    hop_is : (k j : ℕ) → (nodes_of (slice_set xs n with_its_hop)).hop k j ≡ changed_at (nodes_of xs).hop n i v k j
    hop_is k j =
        ap (λ z. cond (nat_lt k z && (nat_le 1 j && nat_lt j 64)) (slice_index (record_at (put xs n with_its_hop within) k).hops (j - 1)) 0) (same_size xs n with_its_hop within)
        ∙ guarded (nat_lt k (size_of xs) && (nat_le 1 j && nat_lt j 64)) (eqb k n && eqb j i) _ _ v
        (λ g. let first = leb-true 1 j ((and_parts _ _ ((and_parts (nat_lt k (size_of xs)) _ g).1)).0) in
        listed xs n with_its_hop within (λ x. x.hops) (i - 1) v (ap (λ x. slice_set x.hops (i - 1) v) (sym was))
        (let l = ap (λ x. length x.hops) was in omega arith) k (j - 1)
        ∙ ap (λ b. cond (eqb k n && b) v (slice_index (record_at xs k).hops (j - 1))) (back j i first some_bit))
        (λ e. let a = same_node k j n i e in let b = same_place k j n i e in
        and_from _ _ (lt-ltb k (size_of xs) (omega arith)) (and_from _ _ (le-leb 1 j (omega arith)) (lt-ltb j 64 (omega arith))))

    pub hop_written : nodes_of (slice_set xs n with_its_hop) ≡ after_hop (nodes_of xs) n i v
    hop_written =
        let is : nodes_of (slice_set xs n with_its_hop) ≡ with_hop (nodes_of xs) n i v = λ t. record {
          size = same_size xs n with_its_hop within t;
          bitmap = λ k. cond (nat_lt k (same_size xs n with_its_hop within t)) (kept xs n with_its_hop within (λ x. x.bitmap) (ap (λ x. x.bitmap) (sym was)) k t) 0;
          count = λ k. cond (nat_lt k (same_size xs n with_its_hop within t)) (kept xs n with_its_hop within (λ x. x.count) (ap (λ x. x.count) (sym was)) k t) 0;
          child = λ k j. cond (nat_lt k (same_size xs n with_its_hop within t) && nat_lt j 64)
              (kept xs n with_its_hop within (λ x. slice_index x.children j) (ap (λ x. slice_index x.children j) (sym was)) k t) 0;
          hop = λ k j. hop_is k j t;
        } in
        is ∙ sym (ap (λ b. cond b (with_hop (nodes_of xs) n i v) (nodes_of xs))
        (and_from _ _ (and_from _ _ node (and_from _ _ (le-leb 1 i some_bit) (lt-ltb i 64 short))) (le-leb v last_hop fits)))
