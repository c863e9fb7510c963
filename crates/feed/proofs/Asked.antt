-- What is asked by a number, and what it leaves: the plan stays, and a lookup leaves all.
use Rattle.std.proofs.Common.{◌≡◌, ℕ, ◌/◌, ◌%◌, ◌^◌, leb, eqb, List, [], ◌∷◌, map, Some, None, Option, refl, sym, ap, ap₂, ◌∙◌, subst}
use Rattle.std.proofs.lemmas.Bool.{eqb-false, eqb-true, ne_eqb}
use Rattle.bits.specs.Rows.{Bits, row}
use Rattle.bits.proofs.Orders.{decided, fails, holds}
use Rattle.model.specs.Calls.{Plain, after, after_all, delete, holding, insert, left_by, lookup, removed, shut}
use Rattle.model.specs.Placements.{Placement}
use Rattle.model.specs.Required.{required}
use Rattle.model.specs.Routes.{Routes, find, last_hop, prefix_of, put, sound}
use Rattle.table.specs.Placed.{placed}
use Rattle.feed.specs.Fed.{call_of, list_after, routes_of}

-- ---- what is asked

module _ (n : ℕ) where
  asks_insert : n / 2 ^ 56 ≡ 0 → call_of n ≡ insert (row 32 (n % 2 ^ 32)) (n / 2 ^ 32 % 2 ^ 8) (n / 2 ^ 40 % 2 ^ 16)
  unfolding call_of
  asks_insert e = simp e refl

  asks_delete : n / 2 ^ 56 ≡ 1 → call_of n ≡ delete (row 32 (n % 2 ^ 32)) (n / 2 ^ 32 % 2 ^ 8)
  unfolding call_of
  asks_delete e = simp e refl

  asks_lookup : (n / 2 ^ 56 ≡ 0 → ⊥) → (n / 2 ^ 56 ≡ 1 → ⊥) → call_of n ≡ lookup (row 32 (n % 2 ^ 32))
  unfolding call_of
  asks_lookup e f = simp (ne_eqb (n / 2 ^ 56) 0 e, ne_eqb (n / 2 ^ 56) 1 f) refl

  -- by what is read of the number
  module _ (a : ℕ) (a_is : a ≡ n % 2 ^ 32) where
    pub is_lookup : (n / 2 ^ 56 ≡ 0 → ⊥) → (n / 2 ^ 56 ≡ 1 → ⊥) → call_of n ≡ lookup (row 32 a)
    is_lookup e f = asks_lookup e f ∙ ap (λ x. lookup (row 32 x)) (sym a_is)

    module _ (l : ℕ) (l_is : l ≡ n / 2 ^ 32 % 2 ^ 8) where
      pub is_delete : n / 2 ^ 56 ≡ 1 → call_of n ≡ delete (row 32 a) l
      is_delete e = asks_delete e ∙ ap₂ (λ x y. delete (row 32 x) y) (sym a_is) (sym l_is)

      pub is_insert : (h : ℕ) → h ≡ n / 2 ^ 40 % 2 ^ 16 → n / 2 ^ 56 ≡ 0 → call_of n ≡ insert (row 32 a) l h
      is_insert h h_is e =
          asks_insert e ∙ ap₂ (λ x y. insert (row 32 x) y (n / 2 ^ 40 % 2 ^ 16)) (sym a_is) (sym l_is) ∙ ap (insert (row 32 a) l) (sym h_is)

-- ---- a lookup leaves list and placement

pub looked_up : (W N : ℕ) (plain : Plain) (at : Placement) (a : Bits) (P : Plain → Placement → Type 0) → P plain at
    → P (after W N plain (lookup a)) (placed W N plain at (lookup a))
looked_up W N shut at a P p = p
looked_up W N (holding plan routes) at a P p = p

-- ---- the plan stays

module _ (W N : ℕ) (plan : List ℕ) where
  Keeps : Plain → Type 0
  Keeps p = p ≡ holding plan (routes_of p)

  keeps_insert : (routes : Routes) (a : Bits) (l h : ℕ) → Keeps (after W N (holding plan routes) (insert a l h))
  unfolding Keeps
  keeps_insert routes a l h =
      let then = put routes (prefix_of a l) h in
      elim (decided (leb l W)) [
        | holds e ↦ elim (decided (sound a l)) [
          | holds s ↦ elim (decided (leb h last_hop)) [
            | holds k ↦ elim (decided (leb (required plan then) N)) [
              | holds n ↦ simp (e, s, k, n) refl
              | fails n ↦ simp (e, s, k, n) refl
            ]
            | fails k ↦ simp (e, s, k) refl
          ]
          | fails s ↦ simp (e, s) refl
        ]
        | fails e ↦ simp e refl
      ]

  keeps_removed : (routes : Routes) (p : Bits) (o : Option ℕ) → Keeps (left_by (holding plan routes) (removed plan routes p o))
  unfolding Keeps
  keeps_removed routes p None = refl
  keeps_removed routes p (Some h) = refl

  keeps_delete : (routes : Routes) (a : Bits) (l : ℕ) → Keeps (after W N (holding plan routes) (delete a l))
  unfolding Keeps
  keeps_delete routes a l = elim (decided (leb l W)) [
    | holds e ↦ elim (decided (sound a l)) [
      | holds s ↦ simp (e, s) (keeps_removed routes (prefix_of a l) (find routes (prefix_of a l)))
      | fails s ↦ simp (e, s) refl
    ]
    | fails e ↦ simp e refl
  ]

  keeps_one : (routes : Routes) (n : ℕ) → Keeps (after W N (holding plan routes) (call_of n))
  unfolding Keeps
  keeps_one routes n = elim (decided (eqb (n / 2 ^ 56) 0)) [
    | holds e ↦ subst (λ c. Keeps (after W N (holding plan routes) c)) (sym (asks_insert n (eqb-true (n / 2 ^ 56) 0 e))) (keeps_insert routes _ _ _)
    | fails e ↦ elim (decided (eqb (n / 2 ^ 56) 1)) [
      | holds f ↦ subst (λ c. Keeps (after W N (holding plan routes) c)) (sym (asks_delete n (eqb-true (n / 2 ^ 56) 1 f))) (keeps_delete routes _ _)
      | fails f ↦ subst (λ c. Keeps (after W N (holding plan routes) c)) (sym (asks_lookup n (eqb-false (n / 2 ^ 56) 0 e) (eqb-false (n / 2 ^ 56) 1 f))) refl
    ]
  ]

  all_keep : (routes : Routes) (calls : List ℕ) → Keeps (after_all W N (holding plan routes) (map call_of calls))
  unfolding Keeps
  all_keep routes [] = refl
  all_keep routes (c ∷ cs) =
      subst (λ p. Keeps (after_all W N p (map call_of cs))) (sym (keeps_one routes c)) (all_keep (routes_of (after W N (holding plan routes) (call_of c))) cs)

-- of an open list that calls have led to
pub plan_stays : (N : ℕ) (strides calls : List ℕ) → list_after N strides calls ≡ holding strides (routes_of (list_after N strides calls))
unfolding Keeps
plan_stays N strides calls = all_keep 32 N strides [] calls
