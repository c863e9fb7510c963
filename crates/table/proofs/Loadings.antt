-- Loading: the routes of a sheet are read and inserted, one after the other.
use Rattle.std.proofs.Common.{◌≡◌, ℕ, suc, ◌-◌, ◌<◌, ◌≤◌, true, List, [], ◌∷◌, ◌++◌, length, Some, None, Option, is_some, sym, refl, ap, ◌∙◌, subst, arith, append_assoc, append-nil, le-leb}
use Rattle.address.specs.declared.Address.{Ghosts as Kind}
use Rattle.bits.proofs.Orders.{decided, fails, holds}
use Rattle.bits.specs.Order.{same, Sound}
use Rattle.bits.specs.Rows.{Bits}
use Rattle.faults.specs.declared.Layer.{Layer}
use Rattle.faults.specs.declared.Layer.TheVariants.{Table as ByTable}
use Rattle.faults.specs.Numbers.{full}
use Rattle.std.specs.Option.{option_map}
use Rattle.std.proofs.lemmas.Bool.{lt-leb}
use Rattle.plan.specs.Strides.{strides_of}
use Rattle.plan.specs.declared.Plan.{Plan}
use Rattle.laws.proofs.Granted.{insert_granted}
use Rattle.laws.proofs.Loads.{put_behind}
use Rattle.laws.proofs.Readings.{both_granted, granted_same}
use Rattle.laws.proofs.Required.{fewer}
use Rattle.model.specs.Bytes.{Bytes}
use Rattle.model.specs.Calls.{Call, Plain, after, answer, done, holding, insert, inserted, left_by, load, load_sheet, loaded, perform, shut}
use Rattle.model.specs.Nodes.{Nodes}
use Rattle.model.specs.Outcomes.{Outcome, and_then, granted, refused}
use Rattle.model.specs.Placements.{Placement, after_insert, after_inserts, after_load}
use Rattle.model.specs.Reading.{series}
use Rattle.model.specs.Required.{required}
use Rattle.model.specs.Routes.{Route, Routes, Ascending, find, last_hop, prefix_of, put, route}
use Rattle.model.specs.Sheets.{Sheet, read_route, read_sheet}
use Rattle.routes.specs.InOrder.{InOrder}
use Rattle.table.specs.Placed.{placed}
use Rattle.table.specs.Stands.{Stands, StandsFor}
use Rattle.table.specs.declared.Table.{Table}

module _ {X Y : Type 0} {G : Kind X} (nodes : Y → Nodes) (W : ℕ) where
  -- of all routes some are held, and the reading of the others gives them, to the end
  pub record Loading (plan : List ℕ) (at : Placement) (all : Routes) (end : ℕ) (t : Table X Y G) (reading : Outcome (Routes × ℕ)) : Type 0 where
    pub held : Routes
    pub left : Routes
    pub parts : all ≡ held ++ left
    pub stands : Stands nodes W t (holding plan held) (after_inserts plan held at)
    pub reads : reading ≡ granted (left, end)

-- ---- the next route that is read

pub record NextRead (W : ℕ) (last : Option Route) (n : ℕ) (bytes : Bytes) (place : ℕ) (left : Routes) (end : ℕ) : Type 0 where
  pub first : Route
  pub rest : Routes
  pub to : ℕ
  pub reads : read_route W last bytes place ≡ granted (first, to)
  pub is : left ≡ first ∷ rest
  pub then : series (read_route W) (Some first) n bytes to ≡ granted (rest, end)

pub next_read : (W : ℕ) (last : Option Route) (n : ℕ) (bytes : Bytes) (place : ℕ) (left : Routes) (end : ℕ)
    → series (read_route W) last (suc n) bytes place ≡ granted (left, end) → NextRead W last n bytes place left end
next_read W last n bytes place left end e =
    both_granted (read_route W last bytes place) _ _ e (λ got read f.
    both_granted (series (read_route W) (Some got.0) n bytes got.1) _ _ f (λ more then g.
    let same = granted_same _ _ g in
    let routes : got.0 ∷ more.0 ≡ left = ap (λ (x : Routes × ℕ). x.0) same in
    let ends : more.1 ≡ end = ap (λ (x : Routes × ℕ). x.1) same in
    record {
      first = got.0;
      rest = more.0;
      to = got.1;
      reads = read;
      is = sym routes;
      then = then ∙ ap (λ (k : ℕ). granted (more.0, k)) ends;
    }))

-- a refusal is no route
pub not_refused : {A : Type 0} {goal : Type 0} (number : ℕ) (layer : Layer) (place : ℕ) (a : A) → refused number layer place ≡ granted a → goal
not_refused number layer place a e = absurd (let z : ◌≡◌ {A = ℕ} 0 1 = cc in omega arith)

-- ---- its insert

ascending_front : (xs ys : Routes) → Ascending (xs ++ ys) → Ascending xs
ascending_front [] ys s = tt
ascending_front (x ∷ []) ys s = (tt, tt)
ascending_front (x ∷ y ∷ xs) ys s = (s.0, ascending_front (y ∷ xs) ys s.1)

found_in_front : (xs ys : Routes) (p : Bits) → is_some (find xs p) ≡ true → is_some (find (xs ++ ys) p) ≡ true
found_in_front [] ys p h = cc
found_in_front (x ∷ xs) ys p h = elim (decided (same p x.prefix)) [
  | holds e ↦ simp e refl
  | fails e ↦ simp e (found_in_front xs ys p (simp e at h))
]

inserts_more : (plan : List ℕ) (xs : Routes) (r : Route) (at : Placement) → after_inserts plan (xs ++ (r ∷ [])) at ≡ after_insert plan r.prefix (after_inserts plan xs at)
inserts_more plan [] r at = refl
inserts_more plan (x ∷ xs) r at = inserts_more plan xs r (after_insert plan x.prefix at)

module _ (W N : ℕ) (plan : List ℕ) (held rest : Routes) (a : Bits) (len hop : ℕ) (long : length a ≡ W) (s : Sound a len) (small : hop ≤ last_hop)
    (up : Ascending (held ++ (route (prefix_of a len) hop ∷ rest))) (room : required plan (held ++ (route (prefix_of a len) hop ∷ rest)) ≤ N) where
  abbrev r : Route
  r = route (prefix_of a len) hop

  whole : (held ++ (r ∷ [])) ++ rest ≡ held ++ (r ∷ rest)
  whole = append_assoc held (r ∷ []) rest

  put_is : put held (prefix_of a len) hop ≡ held ++ (r ∷ [])
  put_is = put_behind held (r ∷ []) (ascending_front (held ++ (r ∷ [])) rest (subst Ascending (sym whole) up))

  fits : required plan (put held (prefix_of a len) hop) ≤ N
  fits =
      let fewer_so_far =
      fewer plan (held ++ (r ∷ [])) (held ++ (r ∷ rest))
      (λ p h. ap (λ (l : Routes). is_some (find l p)) (sym whole) ∙ found_in_front (held ++ (r ∷ [])) rest p h) in
      let same_put = ap (required plan) put_is in
      omega arith

  pub granted_insert : perform W N (holding plan held) (insert a len hop)
      ≡ done (inserted (find held (prefix_of a len)) (required plan (put held (prefix_of a len) hop) - required plan held)) (holding plan (put held (prefix_of a len) hop))
  granted_insert =
      let within = s.0 in
      insert_granted W N plan held a len (le-leb len W (omega arith)) s.1 hop (le-leb hop last_hop small) (le-leb (required plan (put held (prefix_of a len) hop)) N fits)

  pub leaves_more : after W N (holding plan held) (insert a len hop) ≡ holding plan (held ++ (r ∷ []))
  leaves_more = ap (left_by (holding plan held)) granted_insert ∙ ap (holding plan) put_is

  pub places_more : (at : Placement) → placed W N (holding plan held) (after_inserts plan held at) (insert a len hop) ≡ after_inserts plan (held ++ (r ∷ [])) at
  places_more at = rw granted_insert (sym (inserts_more plan held r at))

  -- so it is not refused
  pub insert_passes : {goal : Type 0} (number : ℕ) (layer : Layer) (place : ℕ) → refused number layer place ≡ answer W N (holding plan held) (insert a len hop) → goal
  insert_passes number layer place e = not_refused number layer place _ (e ∙ ap (λ d. and_then d (λ x. granted x.answered)) granted_insert)

-- ---- both, as steps of a load

module _ {X Y : Type 0} {G : Kind X} (nodes : Y → Nodes) (W N : ℕ) (plan : List ℕ) (at : Placement) (all : Routes) (end : ℕ) where
  pub loading_first : (t : Table X Y G) (reading : Outcome (Routes × ℕ)) → Stands nodes W t (holding plan []) at → reading ≡ granted (all, end)
      → Loading nodes W plan at all end t reading
  loading_first t reading s e = record { held = []; left = all; parts = refl; stands = s; reads = e }

  pub loading_last : (t : Table X Y G) (last : Option Route) (bytes : Bytes) (place : ℕ) → Loading nodes W plan at all end t (series (read_route W) last 0 bytes place)
      → Stands nodes W t (holding plan all) (after_inserts plan all at)
  loading_last t last bytes place l =
      let same = granted_same _ _ (sym l.reads) in
      let none : l.left ≡ [] = ap (λ (x : Routes × ℕ). x.0) same in
      let is : all ≡ l.held = l.parts ∙ ap (λ (x : Routes). l.held ++ x) none ∙ append-nil l.held in
      subst (λ (rs : Routes). Stands nodes W t (holding plan rs) (after_inserts plan rs at)) (sym is) l.stands

  module _ (t : Table X Y G) (last : Option Route) (n : ℕ) (bytes : Bytes) (place : ℕ) (l : Loading nodes W plan at all end t (series (read_route W) last (suc n) bytes place)) where
    -- the reading is not refused
    pub read_passes : {goal : Type 0} (number : ℕ) (layer : Layer) (at_fault : ℕ) → refused number layer at_fault ≡ read_route W last bytes place → goal
    read_passes number layer at_fault e =
        let next = next_read W last n bytes place l.left end l.reads in
        not_refused number layer at_fault (next.first, next.to) (e ∙ next.reads)

    module _ (a : Bits) (len hop to : ℕ) (long : length a ≡ W) (s : Sound a len) (small : hop ≤ last_hop) (read : granted (route (prefix_of a len) hop, to) ≡ read_route W last bytes place)
        (order : InOrder W all) (room : required plan all ≤ N) where
      abbrev next : NextRead W last n bytes place l.left end
      next = next_read W last n bytes place l.left end l.reads

      abbrev it : Route
      it = route (prefix_of a len) hop

      same_next : ◌≡◌ {A = Route × ℕ} (it, to) (next.first, next.to)
      same_next = granted_same _ _ (read ∙ next.reads)

      parts_are : all ≡ l.held ++ (it ∷ next.rest)
      parts_are = l.parts ∙ ap (λ (x : Routes). l.held ++ x) (next.is ∙ ap (λ (x : Route × ℕ). x.0 ∷ next.rest) (sym same_next))

      pub step_passes : {goal : Type 0} (number : ℕ) (layer : Layer) (at_fault : ℕ) → refused number layer at_fault ≡ answer W N (holding plan l.held) (insert a len hop) → goal
      step_passes number layer at_fault e =
          insert_passes W N plan l.held next.rest a len hop long s small (subst Ascending parts_are order.0)
          (subst (λ (rs : Routes). required plan rs ≤ N) parts_are room) number layer at_fault e

      pub loading_more : (u : Table X Y G) → Stands nodes W u (after W N (holding plan l.held) (insert a len hop)) (placed W N (holding plan l.held) (after_inserts plan l.held at) (insert a len hop))
          → Loading nodes W plan at all end u (series (read_route W) (Some it) n bytes to)
      loading_more u stands =
          let up = subst Ascending parts_are order.0 in
          let enough = subst (λ (rs : Routes). required plan rs ≤ N) parts_are room in
          record {
            held = l.held ++ (it ∷ []);
            left = next.rest;
            parts = parts_are ∙ sym (append_assoc l.held (it ∷ []) next.rest);
            stands =
                subst (λ (p : Plain). Stands nodes W u p (after_inserts plan (l.held ++ (it ∷ [])) at)) (leaves_more W N plan l.held next.rest a len hop long s small up enough)
                (subst (λ (x : Placement). Stands nodes W u (after W N (holding plan l.held) (insert a len hop)) x)
                (places_more W N plan l.held next.rest a len hop long s small up enough at) stands);
            reads = ap (λ (x : Route × ℕ). series (read_route W) (Some x.0) n bytes x.1) same_next ∙ next.then;
          }

-- ---- what a load comes to

some_same : {A : Type 0} (x y : A) → Some x ≡ Some y → x ≡ y
some_same x y e = cc

-- a table that has a plan stands for an open list of that plan
module _ {X Y : Type 0} {G : Kind X} (nodes : Y → Nodes) (W : ℕ) (t : Table X Y G) (p : Plan X G) (is : t.plan ≡ Some p) (goal : Plain → Placement → Type 0) where
  pub when_open : ((routes : Routes) (at : Placement) → Stands nodes W t (holding (strides_of p) routes) at → goal (holding (strides_of p) routes) at)
      → (plain : Plain) (at : Placement) → Stands nodes W t plain at → goal plain at
  when_open holds_so shut at s =
      let both : Some (strides_of p) ≡ None = sym (ap (option_map strides_of) is) ∙ s in
      let z : ◌≡◌ {A = ℕ} 0 1 = cc in
      absurd (omega arith)
  when_open holds_so (holding plan routes) at s =
      let same : strides_of p ≡ plan = some_same (strides_of p) plan (sym (ap (option_map strides_of) is) ∙ s.planned) in
      subst (λ (x : List ℕ). goal (holding x routes) at) same
      (holds_so routes at (subst (λ (x : List ℕ). Stands nodes W t (holding x routes) at) (sym same) s))

-- what a call comes to that is refused, and one that is granted
module _ (W N : ℕ) (plain : Plain) (c : Call) where
  pub when_refused : (number : ℕ) (layer : Layer) (place : ℕ) (at : Placement) → perform W N plain c ≡ refused number layer place
      → (answer W N plain c ≡ refused number layer place) × (after W N plain c ≡ plain) × (placed W N plain at c ≡ at)
  when_refused number layer place at e = (rw e refl, rw e refl, rw e refl)

module _ (W N : ℕ) (plan : List ℕ) (routes : Routes) (message : Bytes) where
  pub load_unread : (number : ℕ) (layer : Layer) (place : ℕ) → refused number layer place ≡ read_sheet W plan message
      → perform W N (holding plan routes) (load message) ≡ refused number layer place
  unfolding load_sheet
  load_unread number layer place e = rw (sym e) refl

  pub load_full : (s : Sheet) → granted s ≡ read_sheet W plan message → N < required plan s.routes
      → perform W N (holding plan routes) (load message) ≡ refused full ByTable 0
  unfolding load_sheet
  load_full s e more = rw (sym e, lt-leb (required plan s.routes) N more) refl

  module _ (s : Sheet) (e : granted s ≡ read_sheet W plan message) (room : required plan s.routes ≤ N) where
    loads : perform W N (holding plan routes) (load message) ≡ done (loaded s.number) (holding plan s.routes)
    unfolding load_sheet
    loads = rw (sym e, le-leb (required plan s.routes) N room) refl

    pub load_answers : granted (loaded s.number) ≡ answer W N (holding plan routes) (load message)
    load_answers = rw loads refl

    pub load_leaves : after W N (holding plan routes) (load message) ≡ holding plan s.routes
    load_leaves = rw loads refl

    pub load_places : (at : Placement) → placed W N (holding plan routes) at (load message) ≡ after_load N plan s.routes
    load_places at = rw loads refl

-- what is refused leaves the table standing for what it stood for
pub keeps : (W N : ℕ) (now was : Nodes) (strides : Option (List ℕ)) (at_front count needs : ℕ) (plain : Plain) (at : Placement) (c : Call) (number : ℕ) (layer : Layer) (place : ℕ)
    → perform W N plain c ≡ refused number layer place → now ≡ was → StandsFor W was strides at_front count needs plain at
    → StandsFor W now strides at_front count needs (after W N plain c) (placed W N plain at c)
keeps W N now was strides at_front count needs plain at c number layer place e same s =
    let r = when_refused W N plain c number layer place at e in
    subst (λ (m : Nodes). StandsFor W m strides at_front count needs (after W N plain c) (placed W N plain at c)) (sym same)
    (subst (λ (p : Plain). StandsFor W was strides at_front count needs p (placed W N plain at c)) (sym r.1)
    (subst (λ (a : Placement). StandsFor W was strides at_front count needs plain a) (sym r.2) s))
