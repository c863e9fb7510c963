-- Where something is spelled below every child, the search for the smallest route comes to the smallest that is spelled.
use Rattle.std.proofs.Common.{◌≡◌, ℕ, zero, suc, ◌+◌, ◌<◌, Bool, true, false, eqb, List, [], ◌∷◌, ◌++◌, length, is_some, Some, None, Option, sym, refl, subst, arith, le-ltb, lt-ltb, length-append}
use Rattle.bits.specs.Rows.{Bits, number}
use Rattle.bits.proofs.Orders.{holds, fails, decided}
use Rattle.laws.proofs.Longest.{or_else}
use Rattle.laws.proofs.Trees.{child_routes, here, routes_of}
use Rattle.model.specs.Nodes.{Nodes, entry, spelled_from}
use Rattle.model.specs.Outcomes.{Outcome, granted}
use Rattle.model.specs.Routes.{Route, Routes, smallest}
use Rattle.nodes.specs.Fields.{is_node}
use Rattle.walks.specs.Smallest.{child_behind, follow_up, smallest_from}

-- from a node on, to which a path leads, something is spelled
abbrev pub Bears : Nodes → List ℕ → ℕ → Bits → Type 0
Bears nodes ss n path = is_some (smallest (spelled_from nodes ss n path)) ≡ true

-- the node is one that the memory has, something is spelled below each of its children other than 0, and so on down
unfoldable pub Fruitful : Nodes → List ℕ → ℕ → Bits → Type 0
Fruitful nodes [] n path = Unit {0}
Fruitful nodes (s ∷ ss) n path =
    (is_node nodes n ≡ true)
    × ((bs : Bits) → length bs ≡ s → eqb (nodes.child n (number bs)) 0 ≡ false
    → Bears nodes ss (nodes.child n (number bs)) (path ++ bs) × Fruitful nodes ss (nodes.child n (number bs)) (path ++ bs))

-- ---- what was found in a node, and what is spelled: followed up they come to the same, and there is neither or both

pub record Agrees (follow : Option Route → Outcome (Option Route)) (found spelled : Option Route) : Type 0 where
  pub comes : follow found ≡ granted spelled
  pub alike : is_some found ≡ is_some spelled

module _ (f : Option Route → Outcome (Option Route)) where
  -- one after the other
  pub agrees_else : (a x b y : Option Route) → Agrees f a x → Agrees f b y → Agrees f (or_else a b) (or_else x y)
  agrees_else None None b y h k = k
  agrees_else None (Some r) b y h k = let wrong = h.alike in let z : ◌≡◌ {A = ℕ} 0 1 = cc in absurd (omega arith)
  agrees_else (Some e) None b y h k = let wrong = h.alike in let z : ◌≡◌ {A = ℕ} 0 1 = cc in absurd (omega arith)
  agrees_else (Some e) (Some r) b y h k = h

  agrees_append : (ws xs ys zs : Routes) → Agrees f (smallest ws) (smallest xs) → Agrees f (smallest ys) (smallest zs)
      → Agrees f (smallest (ws ++ ys)) (smallest (xs ++ zs))
  agrees_append ws xs ys zs h k =
      subst (λ (o : Option Route). Agrees f o (smallest (xs ++ zs))) (sym (smallest_append ws ys))
      (subst (λ (o : Option Route). Agrees f (or_else (smallest ws) (smallest ys)) o) (sym (smallest_append xs zs))
      (agrees_else (smallest ws) (smallest xs) (smallest ys) (smallest zs) h k))
    where
      smallest_append : (xs ys : Routes) → smallest (xs ++ ys) ≡ or_else (smallest xs) (smallest ys)
      smallest_append [] ys = refl
      smallest_append (x ∷ xs) ys = refl

-- ---- within a node

pub deeper : (bs : Bits) (b : Bool) (more s : ℕ) → length bs + suc more ≡ s → length (bs ++ (b ∷ [])) + more ≡ s
deeper bs b more s e = let longer = length-append bs (b ∷ []) in omega arith

module _ (nodes : Nodes) (s : ℕ) (ss : List ℕ) (n : ℕ) (path : Bits) where
  abbrev pub follow : Option Route → Outcome (Option Route)
  follow = follow_up (smallest_from nodes ss) s path

  -- below each child other than 0 the search comes to the smallest that is spelled, and there is one
  abbrev pub Finds : Type 0
  Finds =
      (bs : Bits) → length bs ≡ s → eqb (nodes.child n (number bs)) 0 ≡ false
      → Bears nodes ss (nodes.child n (number bs)) (path ++ bs)
      × (smallest_from nodes ss (nodes.child n (number bs)) (path ++ bs)
      ≡ granted (smallest (spelled_from nodes ss (nodes.child n (number bs)) (path ++ bs))))

  -- from some levels on, what stands in the node and what is spelled there
  abbrev pub stand : ℕ → Bits → Routes
  stand more bs = routes_of [] (here nodes n) (child_behind nodes ss n) more bs

  abbrev pub spell : ℕ → Bits → Routes
  spell more bs = routes_of path (here nodes n) (child_routes nodes ss n path) more bs

  entry_agrees : (bs : Bits) (o : Option ℕ) → length bs < s → Agrees follow (smallest (entry bs o)) (smallest (entry (path ++ bs) o))
  entry_agrees bs None h = record { comes = refl; alike = refl }
  entry_agrees bs (Some x) h = record { comes = simp (lt-ltb (length bs) s h); alike = refl }

child_agrees : (nodes : Nodes) (s : ℕ) (ss : List ℕ) (n : ℕ) (path : Bits) → Finds nodes s ss n path → (bs : Bits) → length bs ≡ s
    → Agrees (follow nodes s ss n path) (smallest (child_behind nodes ss n bs)) (smallest (child_routes nodes ss n path bs))
unfolding child_routes
child_agrees nodes s [] n path finds bs size = elim (decided (eqb (nodes.child n (number bs)) 0)) [
  | holds e ↦ simp e (record { comes = refl; alike = refl })
  | fails e ↦ simp e (record { comes = refl; alike = refl })
]
child_agrees nodes s (t ∷ ts) n path finds bs size = elim (decided (eqb (nodes.child n (number bs)) 0)) [
  | holds e ↦ simp e (record { comes = refl; alike = refl })
  | fails e ↦
      (let found = finds bs size e in
      simp e (record { comes = simp (le-ltb (length bs) s (omega arith)) found.1; alike = sym found.0 }))
]

module _ (nodes : Nodes) (s : ℕ) (ss : List ℕ) (n : ℕ) (path : Bits) (finds : Finds nodes s ss n path) where
  abbrev f : Option Route → Outcome (Option Route)
  f = follow nodes s ss n path

  pub level_agrees : (more : ℕ) (bs : Bits) → length bs + more ≡ s
      → Agrees f (smallest (stand nodes s ss n path more bs)) (smallest (spell nodes s ss n path more bs))
  unfolding routes_of
  level_agrees zero bs size = child_agrees nodes s ss n path finds bs (omega arith)
  level_agrees (suc more) bs size =
      let o = here nodes n bs in
      let x = λ (b : Bool). stand nodes s ss n path more (bs ++ (b ∷ [])) in
      let y = λ (b : Bool). spell nodes s ss n path more (bs ++ (b ∷ [])) in
      let half = λ (b : Bool). level_agrees more (bs ++ (b ∷ [])) (deeper bs b more s size) in
      agrees_append f (entry bs o) (entry (path ++ bs) o) (x false ++ x true) (y false ++ y true)
      (entry_agrees nodes s ss n path bs o (omega arith))
      (agrees_append f (x false) (y false) (x true) (y true) (half false) (half true))

-- ---- from node to node

module _ (nodes : Nodes) where
  abbrev pub Comes : List ℕ → ℕ → Bits → Type 0
  Comes ss n path = smallest_from nodes ss n path ≡ granted (smallest (spelled_from nodes ss n path))

  pub finds_of : (s : ℕ) (ss : List ℕ) (n : ℕ) (path : Bits) → Fruitful nodes (s ∷ ss) n path
      → ((c : ℕ) (q : Bits) → Fruitful nodes ss c q → Comes ss c q) → Finds nodes s ss n path
  unfolding Fruitful
  finds_of s ss n path fruit comes bs size e =
      let below = fruit.1 bs size e in
      (below.0, comes (nodes.child n (number bs)) (path ++ bs) below.1)

  pub smallest_comes : (ss : List ℕ) (n : ℕ) (path : Bits) → Fruitful nodes ss n path → Comes ss n path
  unfolding Fruitful child_routes here routes_of
  smallest_comes [] n path fruit = refl
  smallest_comes (s ∷ ss) n path fruit =
      let all = level_agrees nodes s ss n path (finds_of s ss n path fruit (smallest_comes ss)) s [] (omega arith) in
      simp fruit.0 all.comes
