-- In a sound placement each required path has a node of its own, and the free nodes are chained.
use Rattle.std.proofs.Common.{◌≡◌, ℕ, ◌≤◌, true, false, ◌||◌, eqb, List, [], ◌∷◌, ◌++◌, length, Some, None, sym, refl, ap, ◌∙◌, subst, arith}
use Rattle.std.proofs.lemmas.Bool.{eq-eqb, eqb-true, or_left, or_parts, or_right}
use Rattle.bits.specs.Rows.{Bits}
use Rattle.bits.specs.Order.{same}
use Rattle.bits.proofs.Orders.{holds, fails, decided, same_eq, same_self}
use Rattle.model.specs.Nodes.{Nodes, Chain}
use Rattle.model.specs.Placements.{Once, Place, Placement, SoundPlacement, front, link_in, listed, node_at, nodes_of, path_at, paths}
use Rattle.model.specs.Required.{Single, member, required_paths}
use Rattle.model.specs.Routes.{Routes}

-- ---- lists of numbers

pub eqb_self : (n : ℕ) → eqb n n ≡ true
eqb_self n = eq-eqb n n refl

pub listed_append : (n : ℕ) (xs ys : List ℕ) → listed n (xs ++ ys) ≡ (listed n xs || listed n ys)
listed_append n [] ys = refl
listed_append n (x ∷ xs) ys = elim (decided (eqb n x)) [ holds e ↦ simp e | fails e ↦ simp e (listed_append n xs ys) ]

pub once_behind : (xs ys : List ℕ) → Once (xs ++ ys) → Once ys
once_behind [] ys o = o
once_behind (x ∷ xs) ys o = once_behind xs ys o.1

-- what stands in the front part does not stand behind it
pub once_apart : (n : ℕ) (xs ys : List ℕ) → Once (xs ++ ys) → listed n xs ≡ true → listed n ys ≡ false
once_apart n [] ys o h = cc
once_apart n (x ∷ xs) ys o h = elim (decided (eqb n x)) [
  | holds e ↦
      (let here : listed n (xs ++ ys) ≡ false = subst (λ m. listed m (xs ++ ys) ≡ false) (sym (eqb-true n x e)) o.0 in
      (or_parts (listed n xs) (listed n ys) (sym (listed_append n xs ys) ∙ here)).1)
  | fails e ↦ once_apart n xs ys o.1 (simp e at h)
]

-- ---- the node of a path

pub node_none : (used : List Place) (p : Bits) → member p (paths used) ≡ false → node_at used p ≡ 0
node_none [] p h = refl
node_none (x ∷ xs) p h =
    let parts = or_parts (same p x.path) (member p (paths xs)) h in
    simp parts.0 (node_none xs p parts.1)

pub node_listed : (used : List Place) (p : Bits) → member p (paths used) ≡ true → listed (node_at used p) (nodes_of used) ≡ true
node_listed [] p h = cc
node_listed (x ∷ xs) p h = elim (decided (same p x.path)) [
  | holds e ↦
      (let here : node_at (x ∷ xs) p ≡ x.node = simp e in
      subst (λ n. listed n (x.node ∷ nodes_of xs) ≡ true) (sym here)
      (or_left (eqb x.node x.node) (listed x.node (nodes_of xs)) (eqb_self x.node)))
  | fails e ↦
      (let there : node_at (x ∷ xs) p ≡ node_at xs p = simp e in
      subst (λ n. listed n (x.node ∷ nodes_of xs) ≡ true) (sym there)
      (or_right (eqb (node_at xs p) x.node) (listed (node_at xs p) (nodes_of xs)) (node_listed xs p (simp e at h))))
]

-- two numbers of which one is listed and the other is not
listed_apart : (n m : ℕ) (xs : List ℕ) → listed n xs ≡ true → listed m xs ≡ false → eqb n m ≡ false
listed_apart n m xs h k = elim (decided (eqb n m)) [
  | holds e ↦ (let i = eqb-true n m e in let wrong : listed m xs ≡ true = subst (λ a. listed a xs ≡ true) i h in cc)
  | fails e ↦ e
]

pub path_back : (used : List Place) (free : List ℕ) (p : Bits) → Once (nodes_of used ++ free) → member p (paths used) ≡ true
    → path_at used (node_at used p) ≡ Some p
path_back [] free p o h = cc
path_back (x ∷ xs) free p o h = elim (decided (same p x.path)) [
  | holds e ↦ simp (e, eqb_self) (ap (λ (q : Bits). Some q) (sym (same_eq p x.path e)))
  | fails e ↦
      (let rest : member p (paths xs) ≡ true = simp e at h in
      let there : listed (node_at xs p) (nodes_of xs ++ free) ≡ true =
      listed_append (node_at xs p) (nodes_of xs) free ∙ or_left (listed (node_at xs p) (nodes_of xs)) (listed (node_at xs p) free) (node_listed xs p rest) in
      let other = listed_apart (node_at xs p) x.node (nodes_of xs ++ free) there o.0 in
      simp (e, other) (path_back xs free p o.1 rest))
]

-- a node in use has a path
pub place_of : (used : List Place) (n : ℕ) → Single (paths used) → listed n (nodes_of used) ≡ true
    → (p : Bits) × (member p (paths used) ≡ true) × (node_at used p ≡ n)
place_of [] n s h = let z : ◌≡◌ {A = ℕ} 0 1 = cc in absurd (omega arith)
place_of (x ∷ xs) n s h = elim (decided (eqb n x.node)) [
  | holds e ↦ (x.path, or_left (same x.path x.path) (member x.path (paths xs)) (same_self x.path), simp (same_self x.path) (sym (eqb-true n x.node e)))
  | fails e ↦
      (let there = place_of xs n s.1 (simp e at h) in
      let p = there.0 in
      elim (decided (same p x.path)) [
        | holds k ↦
            (let twice : member x.path (paths xs) ≡ true = subst (λ (q : Bits). member q (paths xs) ≡ true) (same_eq p x.path k) there.1 in
            let no_more = s.0 in
            let z : ◌≡◌ {A = ℕ} 0 1 = cc in
            absurd (omega arith))
        | fails k ↦ (p, or_right (same p x.path) (member p (paths xs)) there.1, simp k there.2)
      ])
]

pub path_none : (used : List Place) (n : ℕ) → listed n (nodes_of used) ≡ false → path_at used n ≡ None
path_none [] n h = refl
path_none (x ∷ xs) n h =
    let parts = or_parts (eqb n x.node) (listed n (nodes_of xs)) h in
    simp parts.0 (path_none xs n parts.1)

-- ---- a chain follows the links

pub chained : (nodes : Nodes) (free : List ℕ) → Once free → listed 0 free ≡ false → ((n : ℕ) → listed n free ≡ true → nodes.child n 0 ≡ link_in free n)
    → Chain nodes (front free) free
chained nodes [] o z links = refl
chained nodes (n ∷ ns) o z links =
    let parts = or_parts (eqb 0 n) (listed 0 ns) z in
    let next : nodes.child n 0 ≡ front ns = links n (or_left (eqb n n) (listed n ns) (eqb_self n)) ∙ simp eqb_self in
    let below : Chain nodes (front ns) ns =
    chained nodes ns o.1 parts.1 (λ m h.
    let other = listed_apart m n ns h o.0 in
    links m (or_right (eqb m n) (listed m ns) h) ∙ simp other) in (
      refl,
      (λ e. let wrong : eqb 0 n ≡ true = eq-eqb 0 n (sym e) in let z : ◌≡◌ {A = ℕ} 0 1 = cc in omega arith),
      subst (λ first. Chain nodes first ns) (sym next) below,
    )

-- ---- in a sound placement

module _ (N : ℕ) (plan : List ℕ) (routes : Routes) (at : Placement) (sound : SoundPlacement N plan routes at) where
  pub path_of : (p : Bits) → member p (paths at.used) ≡ true → path_at at.used (node_at at.used p) ≡ Some p
  path_of p h = path_back at.used at.free p sound.once h

  pub node_apart : (p q : Bits) → member p (paths at.used) ≡ true → member q (paths at.used) ≡ true
      → node_at at.used p ≡ node_at at.used q → p ≡ q
  node_apart p q h k e =
      let one = path_of p h in
      let two = path_of q k in
      let both : Some p ≡ Some q = sym one ∙ ap (λ n. path_at at.used n) e ∙ two in
      cc

  module _ (root : member [] (required_paths plan routes) ≡ true) where
    root_served : member [] (paths at.used) ≡ true
    root_served = sound.served [] ∙ root

    -- a path with node 0 other than the root has no node
    pub node_zero : (p : Bits) → 1 ≤ length p → eqb (node_at at.used p) 0 ≡ true → member p (paths at.used) ≡ false
    node_zero [] l e = absurd (omega arith)
    node_zero (b ∷ p) l e = elim (decided (member (b ∷ p) (paths at.used))) [
      | holds h ↦
          (let zero = eqb-true (node_at at.used (b ∷ p)) 0 e in
          let wrong = node_apart (b ∷ p) [] h root_served (zero ∙ sym sound.root) in
          cc)
      | fails h ↦ h
    ]

    zero_used : listed 0 at.free ≡ false
    zero_used =
        once_apart 0 (nodes_of at.used) at.free sound.once
        (subst (λ n. listed n (nodes_of at.used) ≡ true) sound.root (node_listed at.used [] root_served))

    pub free_unused : (n : ℕ) → listed n at.free ≡ true → path_at at.used n ≡ None
    free_unused n h = path_none at.used n (elim (decided (listed n (nodes_of at.used))) [
      | holds e ↦ (let wrong = once_apart n (nodes_of at.used) at.free sound.once e in cc)
      | fails e ↦ e
    ])

    pub free_chained : (nodes : Nodes) → ((n : ℕ) → path_at at.used n ≡ None → nodes.child n 0 ≡ link_in at.free n)
        → Chain nodes (front at.free) at.free
    free_chained nodes links =
        chained nodes at.free (once_behind (nodes_of at.used) at.free sound.once) zero_used
        (λ n h. links n (free_unused n h))
