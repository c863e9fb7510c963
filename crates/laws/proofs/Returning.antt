-- Paths that return their nodes: a placement stays sound for the paths that keep theirs.
use Rattle.std.proofs.Common.{◌≡◌, ℕ, suc, ◌+◌, Bool, true, false, cond, not, ◌&&◌, ◌||◌, eqb, leb, List, [], ◌∷◌, length, take, sym, refl, ap, ◌∙◌, subst, arith, length-take-le}
use Rattle.std.proofs.lemmas.Bool.{leb-true, or_parts, or_right}
use Rattle.bits.specs.Rows.{Bits}
use Rattle.bits.specs.Order.{same}
use Rattle.bits.proofs.Orders.{holds, fails, decided, same_eq, same_flips, same_self}
use Rattle.laws.proofs.Bools.{and_false}
use Rattle.laws.proofs.Listed.{count, count_append}
use Rattle.laws.proofs.Taking.{Proper}
use Rattle.laws.proofs.Plans.{ranged}
use Rattle.laws.proofs.Ways.{stride_before, way_stride}
use Rattle.model.specs.Placements.{Place, Placement, node_at, nodes_of, paths, return_all, without_path}
use Rattle.model.specs.Plans.{in_range, offsets_from}
use Rattle.model.specs.Required.{Single, member, way}

-- ---- without the node of one path

pub without_member : (used : List Place) (x q : Bits) → member q (paths (without_path used x)) ≡ cond (same q x) false (member q (paths used))
without_member [] x q = elim (decided (same q x)) [ holds e ↦ simp e | fails e ↦ simp e ]
without_member (y ∷ ys) x q =
    let rest = without_member ys x q in
    elim (decided (same x y.path)) [
      | holds e ↦ elim (decided (same q x)) [
        | holds k ↦ simp (e, k) (rest ∙ simp k)
        | fails k ↦
            (let other : same q y.path ≡ false = subst (λ (z : Bits). same q z ≡ false) (same_eq x y.path e) k in
            simp (e, k, other) (rest ∙ simp k))
      ]
      | fails e ↦ elim (decided (same q x)) [
        | holds k ↦
            (let other : same q y.path ≡ false = subst (λ (z : Bits). same z y.path ≡ false) (sym (same_eq q x k)) e in
            simp (e, k, other) (rest ∙ simp k))
        | fails k ↦ simp (e, k) (ap (λ t. same q y.path || t) (rest ∙ simp k))
      ]
    ]

without_single : (used : List Place) (x : Bits) → Single (paths used) → Single (paths (without_path used x))
without_single [] x s = tt
without_single (y ∷ ys) x s = elim (decided (same x y.path)) [
  | holds e ↦ simp e (without_single ys x s.1)
  | fails e ↦
      (let other : same y.path x ≡ false = same_flips x y.path ∙ e in
      simp e (without_member ys x y.path ∙ simp other s.0, without_single ys x s.1))
]

pub without_node : (used : List Place) (x q : Bits) → same q x ≡ false → node_at (without_path used x) q ≡ node_at used q
without_node [] x q h = refl
without_node (y ∷ ys) x q h = elim (decided (same x y.path)) [
  | holds e ↦
      (let other : same q y.path ≡ false = subst (λ (z : Bits). same q z ≡ false) (same_eq x y.path e) h in
      simp (e, other) (without_node ys x q h))
  | fails e ↦ elim (decided (same q y.path)) [ holds k ↦ simp (e, k) | fails k ↦ simp (e, k) (without_node ys x q h) ]
]

pub without_none : (used : List Place) (x : Bits) → member x (paths used) ≡ false → without_path used x ≡ used
without_none [] x h = refl
without_none (y ∷ ys) x h =
    let parts = or_parts (same x y.path) (member x (paths ys)) h in
    simp parts.0 (ap (λ (l : List Place). y ∷ l) (without_none ys x parts.1))

swapped : (n a b k : ℕ) (xs : List ℕ) → k ≡ count n (a ∷ xs) → cond (eqb n b) (suc k) k ≡ count n (a ∷ b ∷ xs)
swapped n a b k xs h = elim (decided (eqb n a)) [
  | holds e ↦ (let one = simp e at h in elim (decided (eqb n b)) [ holds f ↦ simp (e, f) (omega arith) | fails f ↦ simp (e, f) (omega arith) ])
  | fails e ↦ (let one = simp e at h in elim (decided (eqb n b)) [ holds f ↦ simp (e, f) (omega arith) | fails f ↦ simp (e, f) (omega arith) ])
]

-- the same nodes, with that of the path put in front
without_count : (used : List Place) (x : Bits) → Single (paths used) → member x (paths used) ≡ true → (n : ℕ)
    → count n (nodes_of used) ≡ count n (node_at used x ∷ nodes_of (without_path used x))
without_count [] x s h n = absurd (let z : ◌≡◌ {A = ℕ} 0 1 = cc in omega arith)
without_count (y ∷ ys) x s h n = elim (decided (same x y.path)) [
  | holds e ↦
      (let none : member x (paths ys) ≡ false = subst (λ (z : Bits). member z (paths ys) ≡ false) (sym (same_eq x y.path e)) s.0 in
      let kept = without_none ys x none in
      let node : node_at (y ∷ ys) x ≡ y.node = simp e in
      let others : without_path (y ∷ ys) x ≡ ys = simp e kept in
      ap (λ (l : List Place). count n (y.node ∷ nodes_of l)) (sym others)
      ∙ ap (λ m. count n (m ∷ nodes_of (without_path (y ∷ ys) x))) (sym node))
  | fails e ↦
      (let rest = without_count ys x s.1 (simp e at h) n in
      let node : node_at (y ∷ ys) x ≡ node_at ys x = simp e in
      let others : without_path (y ∷ ys) x ≡ y ∷ without_path ys x = simp e in
      swapped n (node_at ys x) y.node (count n (nodes_of ys)) (nodes_of (without_path ys x)) rest
      ∙ ap (λ (l : List Place). count n (node_at ys x ∷ nodes_of l)) (sym others)
      ∙ ap (λ m. count n (m ∷ nodes_of (without_path (y ∷ ys) x))) (sym node))
]

-- one path less
returned_proper : (N : ℕ) (at : Placement) (x : Bits) → Proper N at → same [] x ≡ false → member x (paths at.used) ≡ true
    → Proper N (record { used = without_path at.used x; free = node_at at.used x ∷ at.free })
returned_proper N at x is other there = record {
  root = without_node at.used x [] other ∙ is.root;
  top = without_member at.used x [] ∙ simp other is.top;
  single = without_single at.used x is.single;
  all = λ n.
      let node = node_at at.used x in
      let rest = nodes_of (without_path at.used x) in
      let before = sym (count_append n (nodes_of at.used) at.free) ∙ is.all n in
      let after = count_append n rest (node ∷ at.free) in
      let same_nodes = without_count at.used x is.single there n in
      after ∙ elim (decided (eqb n node)) [
        | holds e ↦ (let one = simp e at same_nodes in simp e (omega (arith, before, one)))
        | fails e ↦ (let one = simp e at same_nodes in simp e (omega (arith, before, one)))
      ];
}

-- ---- without the nodes of all paths that are not kept

pub record Shrunk (N : ℕ) (kept ps : List Bits) (at result : Placement) : Type 0 where
  pub is : Proper N result
  pub members : (q : Bits) → member q (paths result.used) ≡ (member q (paths at.used) && (member q kept || not (member q ps)))

-- tests that settle themselves
and_kept : (t k : Bool) → t ≡ (t && (k || true))
and_kept true true = refl
and_kept true false = refl
and_kept false k = refl

pub return_shrunk : (N : ℕ) (kept ps : List Bits) (at : Placement) → Proper N at → member [] kept ≡ true → Single ps
    → ((q : Bits) → member q ps ≡ true → member q (paths at.used) ≡ true) → Shrunk N kept ps at (return_all kept ps at)
return_shrunk N kept [] at is root s there = record { is = is; members = λ q. and_kept (member q (paths at.used)) (member q kept) }
return_shrunk N kept (p ∷ ps) at is root s there =
    let rest = return_shrunk N kept ps at is root s.1 (λ q h. there q (or_right (same q p) (member q ps) h)) in
    let then = return_all kept ps at in
    elim (decided (member p kept)) [
      | holds e ↦ simp e (record {
        is = rest.is;
        members = λ q. rest.members q ∙ elim (decided (same q p)) [
          | holds k ↦
              (let here : member q kept ≡ true = subst (λ (x : Bits). member x kept ≡ true) (sym (same_eq q p k)) e in
              simp (k, here))
          | fails k ↦ simp k
        ];
      })
      | fails e ↦
          (let other : same [] p ≡ false = apart e in
          let served : member p (paths then.used) ≡ true =
          rest.members p ∙ simp (there p (simp (same_self p)), e, s.0) in
          simp e (record {
            is = returned_proper N then p rest.is other served;
            members = λ q. without_member then.used p q ∙ elim (decided (same q p)) [
              | holds k ↦
                  (let here : member q kept ≡ false = subst (λ (x : Bits). member x kept ≡ false) (sym (same_eq q p k)) e in
                  simp (k, here) (sym (and_false (member q (paths at.used)))))
              | fails k ↦ simp k (rest.members q)
            ];
          }))
    ]
  where
    apart : member p kept ≡ false → same [] p ≡ false
    apart e = elim (decided (same [] p)) [
      | holds k ↦ (let wrong : member p kept ≡ true = subst (λ (x : Bits). member x kept ≡ true) (same_eq [] p k) root in cc)
      | fails k ↦ k
    ]

-- the paths on one way have different lengths
pub way_single : (ss : List ℕ) (o : ℕ) (p : Bits) → in_range ss ≡ true → Single (way (offsets_from o ss) p)
way_single [] o p g = tt
way_single (s ∷ ss) o p g =
    let range = ranged s ss g in
    let rest = way_single ss (o + s) p range.rest in
    elim (decided (leb o (length p))) [
      | holds e ↦ simp e (
        elim (decided (member (take o p) (way (offsets_from (o + s) ss) p))) [
          | holds k ↦
              (let size = length-take-le o p (leb-true o (length p) e) in
              let some = way_stride ss (o + s) p (take o p) range.rest k in
              let none = stride_before ss (o + s) (length (take o p)) (omega arith) in
              absurd (omega arith))
          | fails k ↦ k
        ],
        rest,
      )
      | fails e ↦ simp e rest
    ]
