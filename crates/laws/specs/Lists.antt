-- The list of routes as a set, at most one hop to a prefix.
use Rattle.std.specs.Prelude.{◌≡◌, ℕ, ◌≤◌, true, false, List, [], ◌∷◌, length, Some, None}
use mathlib.Core.List.{Permᴰ}
use Rattle.bits.specs.Rows.{Bits, padded}
use Rattle.bits.specs.Order.{same}
use Rattle.model.specs.Calls.{Plain, shut, holding, Call, insert, perform, after, after_all}
use Rattle.model.specs.Outcomes.{is_granted}
use Rattle.model.specs.Plans.{plan_ok}
use Rattle.model.specs.Required.{required}
use Rattle.model.specs.Routes.{Routes, Ascending, find, last_hop, put, without}

-- insert and delete keep the list ascending and change one prefix; which hops an ascending list has says all of it
pub record RouteLaws : Type 0 where
  pub put_in : (rs : Routes) (p : Bits) (h : ℕ) → find (put rs p h) p ≡ Some h
  pub put_leaves : (rs : Routes) (p q : Bits) (h : ℕ) → same q p ≡ false → find (put rs p h) q ≡ find rs q
  pub put_ascends : (rs : Routes) (p : Bits) (h : ℕ) → Ascending rs → Ascending (put rs p h)
  pub taken_out : (rs : Routes) (p : Bits) → find (without rs p) p ≡ None
  pub without_leaves : (rs : Routes) (p q : Bits) → same q p ≡ false → find (without rs p) q ≡ find rs q
  pub without_ascends : (rs : Routes) (p : Bits) → Ascending rs → Ascending (without rs p)
  pub alone : (rs qs : Routes) → Ascending rs → Ascending qs → ((p : Bits) → find rs p ≡ find qs p) → rs ≡ qs

-- every prefix has at most W bits, and every hop is in range
abbrev pub InRange : ℕ → Routes → Type 0
InRange W [] = Unit {0}
InRange W (r ∷ rs) = (length r.prefix ≤ W) × (r.hop ≤ last_hop) × InRange W rs

-- a plan for W bits, and ascending routes in range
pub record Holdable (W : ℕ) (plan : List ℕ) (routes : Routes) : Type 0 where
  pub planned : plan_ok W plan ≡ true
  pub ascends : Ascending routes
  pub ranged : InRange W routes

-- Whatever calls were made, refused ones included, and with whatever arguments: an open list has a plan for W bits, ascending routes in
-- range, and no more than N nodes are required.
pub record HistoryLaws : Type 0 where
  pub holdable : (W N : ℕ) (calls : List Call) (plan : List ℕ) (routes : Routes) → after_all W N shut calls ≡ holding plan routes → Holdable W plan routes
  pub enough :
      (W N : ℕ) (calls : List Call) (plan : List ℕ) (routes : Routes) → after_all W N shut calls ≡ holding plan routes → required plan routes ≤ N

-- a prefix is none of those of some routes
abbrev pub Apart : Bits → Routes → Type 0
Apart p [] = Unit {0}
Apart p (r ∷ rs) = (same p r.prefix ≡ false) × Apart p rs

-- no prefix stands twice
abbrev pub Different : Routes → Type 0
Different [] = Unit {0}
Different (r ∷ rs) = Apart r.prefix rs × Different rs

-- with routes put in one after the other
abbrev pub put_all : Routes → Routes → Routes
put_all rs [] = rs
put_all rs (x ∷ xs) = put_all (put rs x.prefix x.hop) xs

-- the calls that insert these routes, in their order; an address has zeros behind the prefix
abbrev pub insert_all : ℕ → Routes → List Call
insert_all W [] = []
insert_all W (r ∷ rs) = insert (padded W r.prefix) (length r.prefix) r.hop ∷ insert_all W rs

-- each of the calls is granted, one after the other
abbrev pub Granted : ℕ → ℕ → Plain → List Call → Type 0
Granted W N plain [] = Unit {0}
Granted W N plain (call ∷ calls) = (is_granted (perform W N plain call) ≡ true) × Granted W N (after W N plain call) calls

-- The order in which a set of routes is inserted does not matter. Where the nodes suffice for all of them, each of the calls is granted in
-- every order, and they leave the same routes, which then require the same nodes.
pub record InsertionLaws : Type 0 where
  pub any_order : (rs xs ys : Routes) → Ascending rs → Different xs → Permᴰ xs ys → put_all rs xs ≡ put_all rs ys
  pub all_granted :
      (W N : ℕ) (plan : List ℕ) (rs xs : Routes) → InRange W xs → required plan (put_all rs xs) ≤ N
      → Granted W N (holding plan rs) (insert_all W xs)
  pub all_held :
      (W N : ℕ) (plan : List ℕ) (rs xs : Routes) → InRange W xs → required plan (put_all rs xs) ≤ N
      → after_all W N (holding plan rs) (insert_all W xs) ≡ holding plan (put_all rs xs)
