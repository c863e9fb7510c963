-- Routes that are inserted one after the other, and a new table that is fed routes in any order.
use Rattle.std.proofs.Common.{◌≡◌, ℕ, ◌+◌, ◌≤◌, true, leb, List, [], ◌∷◌, ◌++◌, length, map, take, drop, sym, refl, ap, ap₂, ◌∙◌, subst, arith, le-leb, length-take-le, length-drop, take-append-drop, Less}
use mathlib.Core.List.{Permᴰ}
use Rattle.address.specs.declared.Address.{Ghosts as Kind}
use Rattle.bits.proofs.Orders.{order_chains}
use Rattle.bits.proofs.Padded.{padded_clear, padded_split}
use Rattle.bits.specs.Order.{order, Sound}
use Rattle.bits.specs.Rows.{Bits, padded}
use Rattle.laws.proofs.Granted.{open_granted}
use Rattle.laws.proofs.Histories.{history_laws}
use Rattle.laws.proofs.Insertions.{insertion_laws}
use Rattle.laws.proofs.Loads.{put_behind, some_required}
use Rattle.laws.specs.Lists.{Apart, Different, InRange, insert_all, put_all}
use Rattle.model.specs.Calls.{Call, Plain, after, after_all, holding, insert, left_by, open_with, shut}
use Rattle.model.specs.Nodes.{Nodes}
use Rattle.model.specs.Placements.{Placement}
use Rattle.model.specs.Required.{required}
use Rattle.model.specs.Routes.{Ascending, Route, Routes, prefix_of}
use Rattle.routes.specs.Meant.{meant}
use Rattle.routes.specs.declared.Route.{Route as Entry}
use Rattle.table.specs.Placed.{placed_all}
use Rattle.table.specs.Stands.{Stands}
use Rattle.table.specs.declared.Table.{Table}
use Rattle.history.specs.Asked.{inserts}

-- what a table stands for while calls are still to come, which leave what all of them leave
module _ {X Y : Type 0} {G : Kind X} (nodes : Y → Nodes) (W N : ℕ) where
  pub record Coming (plain : Plain) (at : Placement) (whole : List Call) (t : Table X Y G) (rest : List Call) : Type 0 where
    pub list : Plain
    pub place : Placement
    pub stands : Stands nodes W t list place
    pub leaves : after_all W N plain whole ≡ after_all W N list rest
    pub placed : placed_all W N plain at whole ≡ placed_all W N list place rest

-- ---- a new table, opened and fed

-- ascending routes have no prefix twice
stands_apart : (p : Bits) (r : Route) (rs : Routes) → order p r.prefix ≡ Less → Ascending (r ∷ rs) → Apart p (r ∷ rs)
stands_apart p r [] b s = (simp b refl, tt)
stands_apart p r (q ∷ rs) b s = (simp b refl, stands_apart p q rs (order_chains p r.prefix q.prefix b s.0) s.1)

different : (rs : Routes) → Ascending rs → Different rs
different [] s = tt
different (r ∷ []) s = (tt, tt)
different (r ∷ q ∷ rs) s = (stands_apart r.prefix q rs s.0 s.1, different (q ∷ rs) s.1)

-- a sound prefix says all of its address
address_of : (W : ℕ) (a : Bits) (len : ℕ) → length a ≡ W → Sound a len → padded W (prefix_of a len) ≡ a
address_of W a len size s =
    let front = length-take-le len a s.0 in
    let rest = length-drop len a in
    let inside = s.0 in
    let whole : length (take len a) + length (drop len a) ≡ W = omega arith in
    ap (λ (k : ℕ). padded k (take len a)) (sym whole)
    ∙ padded_split (take len a) (length (drop len a))
    ∙ ap (λ (r : Bits). take len a ++ r) (padded_clear (drop len a) s.1)
    ∙ take-append-drop len a

module _ {X : Type 0} {G : Kind X} (W : ℕ) (long : (a : X) → length (G.bits a) ≡ W) where
  inserts_are : (rs : List (Entry X G)) → inserts G.bits rs ≡ insert_all W (map (meant G.bits) rs)
  inserts_are [] = refl
  inserts_are (r ∷ rs) =
      let a = G.bits r.prefix.address in
      let len = r.prefix.length in
      ap₂ (λ (c : Call) (cs : List Call). c ∷ cs)
      (ap₂ (λ (x : Bits) (k : ℕ). insert x k r.hop) (sym (address_of W a len (long r.prefix.address) r.sound)) (sym (length-take-le len a r.sound.0)))
      (inserts_are rs)

  in_range : (rs : List (Entry X G)) → InRange W (map (meant G.bits) rs)
  in_range [] = tt
  in_range (r ∷ rs) =
      let size = length-take-le r.prefix.length (G.bits r.prefix.address) r.sound.0 in
      let all = long r.prefix.address in
      let within = r.sound.0 in
      (omega arith, r.small, in_range rs)

  -- the routes of a list that has a history, in any order, leave that list of a new table
  pub fed : (N : ℕ) (h : List Call) (plan : List ℕ) (held : Routes) (rs : List (Entry X G)) → after_all W N shut h ≡ holding plan held
      → Permᴰ held (map (meant G.bits) rs)
      → after_all W N (after W N shut (open_with plan)) (inserts G.bits rs) ≡ holding plan held
  fed N h plan held rs e d =
      let fine = history_laws.holdable W N h plan held e in
      let enough = history_laws.enough W N h plan held e in
      let some : leb 1 N ≡ true = le-leb 1 N (omega (arith, some_required plan held)) in
      let xs = map (meant G.bits) rs in
      let same_list : put_all [] xs ≡ held =
      sym (insertion_laws.any_order [] held xs tt (different held fine.ascends) d) ∙ put_behind [] held fine.ascends in
      ap (λ (p : Plain). after_all W N p (inserts G.bits rs)) (ap (left_by shut) (open_granted W N shut plan fine.planned some))
      ∙ ap (after_all W N (holding plan [])) (inserts_are rs)
      ∙ insertion_laws.all_held W N plan [] xs (in_range rs) (subst (λ (l : Routes). required plan l ≤ N) (sym same_list) enough)
      ∙ ap (holding plan) same_list
