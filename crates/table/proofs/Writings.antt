-- A table's routes, found one after the other, as a sheet wants them.
use Rattle.std.proofs.Common.{◌≡◌, ℕ, zero, suc, ◌+◌, ◌-◌, ◌<◌, ◌≤◌, Bool, true, false, nat_le, leb-true, Ok, Err, Result, List, [], ◌∷◌, ◌++◌, length, take, drop, Some, None, Option, Less, sym, refl, ap, ◌∙◌, subst, add-one, length-append, length-take-le, arith}
use Rattle.address.specs.declared.Address.{Ghosts}
use Rattle.bits.specs.Rows.{Bits}
use Rattle.bits.specs.Order.{order}
use Rattle.bits.proofs.Orders.{order_self}
use Rattle.faults.specs.declared.Fault.{Fault}
use Rattle.faults.specs.declared.Layer.{Layer}
use Rattle.faults.specs.declared.Layer.TheVariants.{Table}
use Rattle.faults.specs.declared.Refusal.TheVariants.{Narrow}
use Rattle.faults.specs.Numbers.{bad_number, number_of, of_table, too_narrow}
use Rattle.laws.specs.Lists.{InRange}
use Rattle.laws.proofs.Places.{Below, above_hit}
use Rattle.laws.proofs.Routes.{above_chains}
use Rattle.laws.proofs.Written.{length_route_bytes}
use Rattle.model.specs.Bytes.{Bytes, byte_count}
use Rattle.model.specs.Nodes.{Nodes}
use Rattle.model.specs.Placements.{Placement}
use Rattle.model.specs.Routes.{Route, Routes, Above, Ascending, above, last_hop, smallest}
use Rattle.model.specs.Sheets.{last_number, route_bytes, routes_bytes, sheet_bytes}
use Rattle.model.specs.Calls.{Answer, Plain, answer, done, holding, write, written}
use Rattle.model.specs.Outcomes.{Outcome, and_then, granted, outcome, provided, refused}
use Rattle.walks.specs.Shows.{Shows}
use Rattle.descent.specs.Meant.{held_route}
use Rattle.descent.specs.declared.Held.{Held}
use Rattle.messages.specs.Puts.{beside, put_in}
use Rattle.sheets.specs.Written.{head_bytes, write_sheet}
use Rattle.sheets.proofs.Putting.{OneLess, length_head, no_room, none_less, one_less, one_less_room, put_fits, sheet_put, sheet_too_long}
use Rattle.table.specs.Answers.{written_answer}

some_alone : (a b : Route) → Some a ≡ Some b → a ≡ b
some_alone a b e = cc

not_some : {A : Type 0} {goal : Type 0} (r : A) → Some r ≡ None → goal
not_some r e = let z : ◌≡◌ {A = ℕ} 0 1 = cc in absurd (omega arith)

-- ---- the route at i, in ascending routes

here_at : (rs : Routes) (i : ℕ) (r : Route) → Some r ≡ smallest (drop i rs) → drop i rs ≡ r ∷ drop (suc i) rs
here_at [] zero r e = not_some r e
here_at [] (suc i) r e = not_some r e
here_at (x ∷ rs) zero r e = ap (λ (y : Route). y ∷ rs) (sym (some_alone r x e))
here_at (x ∷ rs) (suc i) r e = here_at rs i r e

comes_after : (rs : Routes) (p : Bits) (i : ℕ) (r : Route) → Above p rs → Ascending rs → Some r ≡ smallest (drop i rs) → order p r.prefix ≡ Less
comes_after [] p zero r a s e = not_some r e
comes_after [] p (suc i) r a s e = not_some r e
comes_after (x ∷ rs) p zero r a s e = ap (λ (y : Route). order p y.prefix) (some_alone r x e) ∙ a
comes_after (x ∷ rs) p (suc i) r a s e = comes_after rs p i r (above_chains rs p x.prefix a s.0) s.1 e

below_at : (rs : Routes) (i : ℕ) (r : Route) → Ascending rs → Some r ≡ smallest (drop i rs) → Below r.prefix (take i rs)
below_at rs zero r s e = tt
below_at [] (suc i) r s e = tt
below_at (x ∷ rs) (suc i) r s e = (comes_after rs x.prefix i r s.0 s.1 e, below_at rs i r s.1 e)

small_at : (W : ℕ) (rs : Routes) (i : ℕ) (r : Route) → InRange W rs → Some r ≡ smallest (drop i rs) → r.hop ≤ last_hop
small_at W [] zero r s e = not_some r e
small_at W [] (suc i) r s e = not_some r e
small_at W (x ∷ rs) zero r s e = subst (λ (y : Route). y.hop ≤ last_hop) (sym (some_alone r x e)) s.1
small_at W (x ∷ rs) (suc i) r s e = small_at W rs i r s.2 e

-- it stands in front of the others, and they are found from it on
pub record Next (rs : Routes) (i : ℕ) (r : Route) : Type 0 where
  pub here : drop i rs ≡ r ∷ drop (i + 1) rs
  pub follows : above rs r.prefix ≡ smallest (drop (i + 1) rs)
  pub small : r.hop ≤ last_hop

pub next_at : (W : ℕ) (rs : Routes) (i : ℕ) (r : Route) → Ascending rs → InRange W rs → Some r ≡ smallest (drop i rs) → Next rs i r
next_at W rs i r s range e =
    let more : suc i ≡ i + 1 = sym (add-one i) in
    record {
      here = here_at rs i r e ∙ ap (λ (k : ℕ). r ∷ drop k rs) more;
      follows =
          above_hit rs i r.prefix (below_at rs i r s e) r (drop (suc i) rs) (here_at rs i r e) (order_self r.prefix) s
          ∙ ap (λ (k : ℕ). smallest (drop k rs)) more;
      small = small_at W rs i r range e;
    }

-- none is found where none is left
pub none_left : (rs : Routes) → None ≡ smallest rs → rs ≡ []
none_left [] e = refl
none_left (x ∷ rs) e = not_some x (sym e)

pub next_shown : {W : ℕ} {nodes : Nodes} {plan : List ℕ} {routes : Routes} {at : Placement} → Shows W nodes plan routes at
    → (i : ℕ) (r : Route) → Some r ≡ smallest (drop i routes) → Next routes i r
next_shown {W} {nodes} {plan} {routes} shown i r e = next_at W routes i r shown.holdable.ascends shown.holdable.ranged e

pub shown_still : {W : ℕ} {nodes now : Nodes} {plan : List ℕ} {routes : Routes} {at : Placement} → now ≡ nodes → Shows W nodes plan routes at
    → Shows W now plan routes at
shown_still {W} {nodes} {now} {plan} {routes} {at} same shown = subst (λ (m : Nodes). Shows W m plan routes at) (sym same) shown

-- how many bytes a held route takes
pub length_held : {X : Type 0} {G : Ghosts X} (h : Held X G) → length (route_bytes (held_route G.bits h)) ≡ 3 + byte_count h.prefix.prefix.length
length_held {X} {G} h =
    length_route_bytes (held_route G.bits h)
    ∙ ap (λ (k : ℕ). 3 + byte_count k) (length-take-le h.prefix.prefix.length (G.bits h.prefix.prefix.address) h.prefix.sound.0)

-- the first of those that are left, and the others behind it
module _ {routes : Routes} {i : ℕ} {r : Route} (next : Next routes i r) where
  abbrev more : Bytes
  more = routes_bytes (drop (i + 1) routes)

  abbrev all : Bytes
  all = routes_bytes (drop i routes)

  all_is : all ≡ route_bytes r ++ more
  all_is = ap routes_bytes next.here

  -- whether they fit what is left
  module _ (size left : ℕ) (is : length (route_bytes r) ≡ size) where
    pub others_fit : size ≤ left → nat_le (length all) left ≡ nat_le (length more) (left - size)
    others_fit fits = ap (λ (b : Bytes). nat_le (length b) left) all_is ∙ one_less_room (route_bytes r) more size left is fits

    pub none_fits : left < size → nat_le (length all) left ≡ false
    none_fits short = ap (λ (b : Bytes). nat_le (length b) left) all_is ∙ no_room (route_bytes r) more size left is short

  -- where all of them fit, it is not refused, and the others come to the same behind it
  module _ (place : ℕ) (output : Bytes) (room : place + length all ≤ length output) where
    room_first : place + length (route_bytes r ++ more) ≤ length output
    room_first = subst (λ (b : Bytes). place + length b ≤ length output) all_is room

    pub first_fits : {goal : Type 0} (number : ℕ) (layer : Layer) (at : ℕ) → refused number layer at ≡ put_in place (route_bytes r) output → goal
    first_fits number layer at e =
        let both = length-append (route_bytes r) more in
        let long = room_first in
        let wrong = e ∙ put_fits place (route_bytes r) output (omega arith) in
        let z : ◌≡◌ {A = ℕ} 0 1 = cc in
        absurd (omega arith)

    pub first_put : (end : ℕ) (now : Bytes) → granted (beside now end) ≡ put_in place (route_bytes r) output → OneLess place more output end now all
    first_put end now e = subst (λ (b : Bytes). OneLess place more output end now b) (sym all_is) (one_less place (route_bytes r) more output end now room_first e)

-- behind the last, all were put in
pub last_put : (routes : Routes) (place : ℕ) (all output : Bytes) (end : ℕ) (now : Bytes) → routes ≡ [] → put_in place all output ≡ put_in end (routes_bytes routes) now
    → end + length (routes_bytes routes) ≤ length now → granted (beside now end) ≡ put_in place all output
last_put routes place all output end now none same room =
    let is : routes_bytes routes ≡ [] = ap routes_bytes none in
    let here : end + 0 ≤ length now = subst (λ (b : Bytes). end + length b ≤ length now) is room in
    none_less end now (omega arith) ∙ ap (λ (b : Bytes). put_in end b now) (sym is) ∙ sym same

-- what is no route is none
pub is_none : {X : Type 0} (o : Option X) → ((x : X) → o ≡ Some x → ⊥) → o ≡ None
is_none None h = refl
is_none (Some x) h = absurd (h x refl)

-- ---- the whole sheet

-- what writing it comes to, as an answer
abbrev to_answer : Outcome (ℕ × Bytes) → Outcome Answer
to_answer o = and_then o (λ x. granted (written x.0 x.1))

told : (now : Bytes) (r : Result ℕ Fault) → outcome (written_answer now) r ≡ to_answer (outcome (beside now) r)
told now (Ok n) = refl
told now (Err f) = refl

tests : (t u : Bool) (n : ℕ) (b : Bytes) (left : Plain)
    → to_answer (provided t bad_number Table 0 (provided u too_narrow Table 0 (granted (n, b))))
    ≡ and_then (provided t bad_number Table 0 (provided u too_narrow Table 0 (done (written n b) left))) (λ d. granted d.answered)
tests true true n b left = refl
tests true false n b left = refl
tests false u n b left = refl

module _ (number : ℕ) (plan : List ℕ) (routes : Routes) (output : Bytes) where
  answers_written : (W N : ℕ) (now : Bytes) (r : Result ℕ Fault) → outcome (beside now) r ≡ write_sheet number plan routes output
      → outcome (written_answer now) r ≡ answer W N (holding plan routes) (write number output)
  answers_written W N now r e =
      let sheet = sheet_bytes number plan routes in
      let here : 0 + length sheet ≡ length sheet = omega arith in
      told now r ∙ ap to_answer e
      ∙ ap
      (λ (k : ℕ). to_answer (provided (nat_le number last_number) bad_number Table 0
      (provided (nat_le k (length output)) too_narrow Table 0 (granted (k, sheet ++ drop k output)))))
      here
      ∙ tests (nat_le number last_number) (nat_le (length sheet) (length output)) (length sheet) (sheet ++ drop (length sheet) output) (holding plan routes)

  module _ {plain : Plain} (is : plain ≡ holding plan routes) (W N : ℕ) (small : number ≤ last_number) where
    pub answers_narrow : nat_le (13 + length plan + length (routes_bytes routes)) (length output) ≡ false → (f : Fault) → f ≡ of_table Narrow
        → refused (number_of f.refusal) f.layer f.place ≡ answer W N plain (write number output)
    answers_narrow e f narrow =
        ap (λ (x : Fault). refused (number_of x.refusal) x.layer x.place) narrow
        ∙ answers_written W N output (Err (of_table Narrow)) (sym (sheet_too_long number plan routes output small e))
        ∙ ap (λ (p : Plain). answer W N p (write number output)) (sym is)

    -- its front is put in, and then the routes, for which there is room
    pub answers_whole : nat_le (13 + length plan + length (routes_bytes routes)) (length output) ≡ true → {count : ℕ} → count ≡ length routes → (place : ℕ) (now : Bytes)
        → granted (beside now place) ≡ put_in 0 (head_bytes number plan count) output → (last : Bytes) (r : Result ℕ Fault)
        → (place + length (routes_bytes routes) ≤ length now → outcome (beside last) r ≡ put_in place (routes_bytes routes) now)
        → outcome (written_answer last) r ≡ answer W N plain (write number output)
    answers_whole e {count} counted place now first last r behind =
        let fits = leb-true (13 + length plan + length (routes_bytes routes)) (length output) e in
        let front = head_bytes number plan (length routes) in
        let front_put : granted (beside now place) ≡ put_in 0 front output = first ∙ ap (λ (n : ℕ). put_in 0 (head_bytes number plan n) output) counted in
        let long = length_head number plan (length routes) in
        let both = length-append front (routes_bytes routes) in
        let room = (one_less 0 front (routes_bytes routes) output place now (omega arith) front_put).room in
        answers_written W N last r (behind room ∙ sheet_put number plan routes output small e place now front_put)
        ∙ ap (λ (p : Plain). answer W N p (write number output)) (sym is)
