-- Paths that take nodes: a placement stays sound for the paths that have nodes, as long as there are enough.
use Rattle.std.proofs.Common.{◌≡◌, ℕ, zero, suc, ◌-◌, ◌≤◌, true, false, ◌||◌, eqb, List, [], ◌∷◌, ◌++◌, length, sym, refl, ap, ◌∙◌, subst, zero-add, arith, length-append}
use Rattle.std.proofs.lemmas.Bool.{le-leb, or_right}
use Rattle.bits.specs.Rows.{Bits}
use Rattle.bits.specs.Order.{order, same}
use Rattle.bits.proofs.Orders.{holds, fails, decided, same_eq}
use Rattle.laws.proofs.Singles.{single_distinct}
use Rattle.laws.proofs.Listed.{Numbers, count, count_append, from_numbers, numbers, numbers_length, numbers_listed, numbers_once}
use Rattle.laws.proofs.Paths.{count_append as paths_append, member_append, or_swap, same_count}
use Rattle.laws.proofs.Ways.{root_required}
use Rattle.model.specs.Placements.{Place, Placement, SoundPlacement, from, node_at, nodes_of, opened_placement, paths, take_for, taken}
use Rattle.model.specs.Required.{Single, distinct, member, required_paths}
use Rattle.model.specs.Routes.{Routes}

-- a placement that is sound for whichever paths have nodes
pub record Proper (N : ℕ) (at : Placement) : Type 0 where
  pub root : node_at at.used [] ≡ 0
  pub top : member [] (paths at.used) ≡ true
  pub single : Single (paths at.used)
  pub all : Numbers N (nodes_of at.used ++ at.free)

-- every sound placement is one, and one is sound for the routes that require its paths
pub proper : (N : ℕ) (plan : List ℕ) (routes : Routes) (at : Placement) → SoundPlacement N plan routes at → Proper N at
proper N plan routes at sound = record {
  root = sound.root;
  top = sound.served [] ∙ root_required plan routes;
  single = sound.single;
  all = numbers N (nodes_of at.used ++ at.free) sound.each_node sound.once;
}

pub sound : (N : ℕ) (plan : List ℕ) (routes : Routes) (at : Placement) → Proper N at
    → ((q : Bits) → member q (paths at.used) ≡ member q (required_paths plan routes)) → SoundPlacement N plan routes at
sound N plan routes at is served = record {
  root = is.root;
  served = served;
  single = is.single;
  each_node = numbers_listed N (nodes_of at.used ++ at.free) is.all;
  once = numbers_once N (nodes_of at.used ++ at.free) is.all;
}

-- ---- opening

pub opened_proper : (N : ℕ) → 1 ≤ N → Proper N (opened_placement N)
unfolding opened_placement order
opened_proper zero h = absurd (omega arith)
opened_proper (suc N) h = record {
  root = refl;
  top = refl;
  single = (refl, tt);
  all = λ n.
      let whole : 0 ∷ from 1 (suc N - 1) ≡ from 0 (suc N) = ap (λ k. 0 ∷ from 1 k) (omega arith) in
      ap (count n) whole ∙ from_numbers 0 (suc N) n ∙ simp (le-leb 0 n (omega arith), zero-add (suc N));
}

pub opened_members : (N : ℕ) (plan : List ℕ) (q : Bits) → member q (paths (opened_placement N).used) ≡ member q (required_paths plan [])
unfolding opened_placement required_paths
opened_members N plan q = refl

-- ---- paths that take nodes

-- a path put before others or behind them
moved : (p : Bits) (ps xs : List Bits) (q : Bits) → member q (ps ++ (p ∷ xs)) ≡ member q (p ∷ (ps ++ xs))
moved p ps xs q =
    member_append q ps (p ∷ xs) ∙ or_swap (member q ps) (same q p) (member q xs) ∙ ap (λ t. same q p || t) (sym (member_append q ps xs))

-- a path that stands behind them anyway
doubled : (p : Bits) (ps xs : List Bits) → member p xs ≡ true → (q : Bits) → member q (ps ++ xs) ≡ member q (p ∷ (ps ++ xs))
doubled p ps xs h q = elim (decided (same q p)) [
  | holds e ↦
      (let there : member q xs ≡ true = subst (λ (x : Bits). member x xs ≡ true) (sym (same_eq q p e)) h in
      simp e (member_append q ps xs ∙ or_right (member q ps) (member q xs) there))
  | fails e ↦ simp e
]

-- how many paths and nodes there are
pub nodes_length : (used : List Place) → length (nodes_of used) ≡ length (paths used)
nodes_length [] = refl
nodes_length (x ∷ xs) = ap suc (nodes_length xs)

pub more_paths : (xs ys : List Bits) → length (distinct ys) ≤ length (distinct (xs ++ ys))
more_paths xs ys = let sum = paths_append xs ys in omega arith

-- no fewer nodes than paths
pub room : (N : ℕ) (used : List Place) (p : Bits) → Proper N (record { used = used; free = [] }) → member p (paths used) ≡ false
    → length (distinct (p ∷ paths used)) ≤ N → ⊥
room N used p is e h =
    let size = numbers_length N (nodes_of used ++ []) is.all in
    let same_size = nodes_length used in
    let joined = length-append (nodes_of used) [] in
    let one_more : length (distinct (p ∷ paths used)) ≡ suc (length (paths used)) = simp e (ap (λ (l : List Bits). suc (length l)) (single_distinct (paths used) is.single)) in
    omega arith

-- one path more
taken_proper : (N : ℕ) (used : List Place) (free : List ℕ) (p : Bits) → Proper N (record { used = used; free = free }) → member p (paths used) ≡ false
    → length (distinct (p ∷ paths used)) ≤ N → Proper N (taken p used free) × (paths (taken p used free).used ≡ p ∷ paths used)
taken_proper N used [] p is e h = absurd (room N used p is e h)
taken_proper N used (n ∷ free) p is e h = (
  record {
    root = elim (decided (same [] p)) [
      | holds k ↦
          (let top = is.top in
          let wrong : member [] (paths used) ≡ false = subst (λ (x : Bits). member x (paths used) ≡ false) (sym (same_eq [] p k)) e in
          cc)
      | fails k ↦ simp k is.root
    ];
    top = or_right (same [] p) (member [] (paths used)) is.top;
    single = (e, is.single);
    all = λ m.
        let before = is.all m in
        let parts = count_append m (nodes_of used) (n ∷ free) in
        let after = count_append m (nodes_of used) free in
        (elim (decided (eqb m n)) [
          | holds k ↦ (let one = simp k at parts in simp k (omega arith))
          | fails k ↦ (let one = simp k at parts in simp k (omega arith))
        ]);
  },
  refl,
)

-- what taking nodes for paths leaves
pub record Grown (N : ℕ) (ps : List Bits) (at result : Placement) : Type 0 where
  pub is : Proper N result
  pub members : (q : Bits) → member q (paths result.used) ≡ member q (ps ++ paths at.used)

pub take_grown : (N : ℕ) (ps : List Bits) (at : Placement) → Proper N at → length (distinct (ps ++ paths at.used)) ≤ N → Grown N ps at (take_for ps at)
take_grown N [] at is h = record { is = is; members = λ q. refl }
take_grown N (p ∷ ps) at is h = elim (decided (member p (paths at.used))) [
  | holds e ↦
      (let same_size = same_count (ps ++ paths at.used) (p ∷ (ps ++ paths at.used)) (doubled p ps (paths at.used) e) in
      let rest = take_grown N ps at is (omega arith) in
      simp e (record { is = rest.is; members = λ q. rest.members q ∙ doubled p ps (paths at.used) e q }))
  | fails e ↦
      (let same_size = same_count (ps ++ (p ∷ paths at.used)) (p ∷ (ps ++ paths at.used)) (moved p ps (paths at.used)) in
      let fewer = more_paths ps (p ∷ paths at.used) in
      let step = taken_proper N at.used at.free p is e (omega arith) in
      let then = taken p at.used at.free in
      let shape = step.1 in
      let size : length (distinct (ps ++ paths then.used)) ≡ length (distinct (ps ++ (p ∷ paths at.used))) =
      ap (λ (l : List Bits). length (distinct (ps ++ l))) shape in
      let rest = take_grown N ps then step.0 (omega arith) in
      simp e (record {
        is = rest.is;
        members = λ q. rest.members q ∙ ap (λ (l : List Bits). member q (ps ++ l)) shape ∙ moved p ps (paths at.used) q;
      }))
]
