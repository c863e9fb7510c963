-- Opening, one node after the other.
use Rattle.std.proofs.Common.{◌≡◌, ℕ, zero, suc, ◌+◌, ◌≤◌, Bool, true, false, cond, ◌&&◌, ◌||◌, eqb, leb, ltb, refl, sym, ap, arith, lt-ltb, le-ltb, ltb-true, ltb-false, eqb-true}
use Rattle.std.proofs.lemmas.Bool.{eqb-false, ne_eqb}
use Rattle.bits.proofs.Orders.{holds, fails, decided}
use Rattle.model.specs.Nodes.{Nodes}
use Rattle.nodes.specs.Fields.{is_child, is_hop, is_node}
use Rattle.nodes.specs.Laws.{Within}
use Rattle.images.specs.Steps.{chained}
use Rattle.growth.specs.Clearing.{cleared, first_link, opened_below}

-- one number more is below the next
below_next : (k n : ℕ) → ltb k (n + 1) ≡ (eqb k n || ltb k n)
below_next k n = elim (decided (eqb k n)) [
  | holds e ↦ (let i = eqb-true k n e in simp e (lt-ltb k (n + 1) (omega arith)))
  | fails e ↦
      (let i = eqb-false k n e in
      elim (decided (ltb k n)) [
        | holds l ↦ (let j = ltb-true k n l in simp (e, l) (lt-ltb k (n + 1) (omega arith)))
        | fails l ↦ (let j = ltb-false k n l in simp (e, l) (le-ltb k (n + 1) (omega arith)))
      ])
]

module _ (m : Nodes) (n : ℕ) where
  one : (k x : ℕ) → cond (eqb k n) 0 (cond (ltb k n) 0 x) ≡ cond (ltb k (n + 1)) 0 x
  one k x = elim (decided (eqb k n)) [ holds e ↦ simp (below_next k n, e) | fails e ↦ simp (below_next k n, e) ]

  -- inside the node, and outside as it was
  both : (e b l : Bool) (x y z : ℕ) → (e ≡ true → x ≡ y) → cond (e && l) x (cond (b && l) y z) ≡ cond ((e || b) && l) y z
  both true true true x y z h = h refl
  both true true false x y z h = refl
  both true false true x y z h = h refl
  both true false false x y z h = refl
  both false b l x y z h = refl

  one_of : (k j x : ℕ) → cond (eqb k n && ltb j 64) 0 (cond (ltb k n && ltb j 64) 0 x) ≡ cond (ltb k (n + 1) && ltb j 64) 0 x
  one_of k j x = rw (below_next k n) (both (eqb k n) (ltb k n) (ltb j 64) 0 0 x (λ e. refl))

  one_link : (k j x : ℕ)
      → cond (eqb k n && ltb j 64) (cond (eqb j 0) (first_link m n) 0) (cond (ltb k n && ltb j 64) (cond (eqb j 0) (first_link m k) 0) x)
      ≡ cond (ltb k (n + 1) && ltb j 64) (cond (eqb j 0) (first_link m k) 0) x
  one_link k j x =
      rw (below_next k n) (both (eqb k n) (ltb k n) (ltb j 64) (cond (eqb j 0) (first_link m n) 0) (cond (eqb j 0) (first_link m k) 0) x
      (λ e. ap (λ (i : ℕ). cond (eqb j 0) (first_link m i) 0) (sym (eqb-true k n e))))

  pub opened_more : cleared (opened_below m n) n (first_link m n) ≡ opened_below m (n + 1)
  opened_more = λ i. record {
    size = m.size;
    bitmap = λ k. one k (m.bitmap k) i;
    count = λ k. one k (m.count k) i;
    child = λ k j. one_link k j (m.child k j) i;
    hop = λ k j. one_of k j (m.hop k j) i;
  }

pub opened_none : (m : Nodes) → m ≡ opened_below m 0
opened_none m = λ i. record {
  size = m.size;
  bitmap = λ k. none k (m.bitmap k) i;
  count = λ k. none k (m.count k) i;
  child = λ k j. none_of k j (cond (eqb j 0) (first_link m k) 0) (m.child k j) i;
  hop = λ k j. none_of k j 0 (m.hop k j) i;
}
  where
    none : (k x : ℕ) → x ≡ cond (ltb k 0) 0 x
    none k x = simp (le-ltb k 0 (omega arith))

    none_of : (k j y x : ℕ) → x ≡ cond (ltb k 0 && ltb j 64) y x
    none_of k j y x = simp (le-ltb k 0 (omega arith))

-- all nodes are as opening leaves them, and outside all is 0
module _ (m : Nodes) (n : ℕ) (within : Within m) (all : m.size ≤ n) where
  past : (k : ℕ) → ltb k n ≡ false → is_node m k ≡ false
  past k l = le-ltb k m.size (let h = ltb-false k n l in omega arith)

  all_zero : (k x : ℕ) → (ltb k n ≡ false → x ≡ 0) → cond (ltb k n) 0 x ≡ 0
  all_zero k x none = elim (decided (ltb k n)) [ holds l ↦ simp l | fails l ↦ simp l (none l) ]

  all_zero_of : (k j x : ℕ) → ((ltb k n && ltb j 64) ≡ false → x ≡ 0) → cond (ltb k n && ltb j 64) 0 x ≡ 0
  all_zero_of k j x none = elim (decided (ltb k n && ltb j 64)) [ holds l ↦ simp l | fails l ↦ simp l (none l) ]

  no_child : (k j : ℕ) → (ltb k n && ltb j 64) ≡ false → is_child m k j ≡ false
  no_child k j none = elim (decided (ltb k n)) [
    | holds l ↦ (let high : ltb j 64 ≡ false = simp l at none in simp high (and_no (is_node m k)))
    | fails l ↦ simp (past k l)
  ]
    where
      and_no : (t : Bool) → (t && false) ≡ false
      and_no true = refl
      and_no false = refl

  no_hop : (k j : ℕ) → (ltb k n && ltb j 64) ≡ false → is_hop m k j ≡ false
  no_hop k j none = elim (decided (ltb k n)) [
    | holds l ↦ (let high : ltb j 64 ≡ false = simp l at none in simp high (and_none (is_node m k) (leb 1 j)))
    | fails l ↦ simp (past k l)
  ]
    where
      and_none : (t u : Bool) → (t && (u && false)) ≡ false
      and_none true true = refl
      and_none true false = refl
      and_none false u = refl

  all_links : (k j : ℕ)
      → cond (ltb k n && ltb j 64) (cond (eqb j 0) (first_link m k) 0) (m.child k j) ≡ cond (eqb j 0 && (ltb 0 k && ltb (suc k) m.size)) (suc k) 0
  all_links k zero = elim (decided (ltb k n)) [
    | holds l ↦ simp l
    | fails l ↦
        (let h = ltb-false k n l in
        let off : (ltb 0 k && ltb (suc k) m.size) ≡ false = simp (le-ltb (suc k) m.size (omega arith)) (and_no (ltb 0 k)) in
        simp (l, off) (within.child k 0 (no_child k 0 (simp l))))
  ]
    where
      and_no : (t : Bool) → (t && false) ≡ false
      and_no true = refl
      and_no false = refl
  all_links k (suc j) =
      let later : eqb (suc j) 0 ≡ false = ne_eqb (suc j) 0 (λ e. omega arith) in
      simp later (all_zero_of k (suc j) (m.child k (suc j)) (λ none. within.child k (suc j) (no_child k (suc j) none)))

  pub opened_all : opened_below m n ≡ chained m.size
  opened_all = λ i. record {
    size = m.size;
    bitmap = λ k. all_zero k (m.bitmap k) (λ l. within.bitmap k (past k l)) i;
    count = λ k. all_zero k (m.count k) (λ l. within.count k (past k l)) i;
    child = λ k j. all_links k j i;
    hop = λ k j. all_zero_of k j (m.hop k j) (λ none. within.hop k j (no_hop k j none)) i;
  }
