-- What a plan, routes and a call come to in the plain list, and the number of nodes that a call answers.
use Rattle.std.proofs.Common.{◌≡◌, ℕ, ◌+◌, ◌-◌, ◌<◌, ◌≤◌, true, leb, List, length, Option, Some, sym, ap, ◌∙◌, subst, arith}
use Rattle.std.specs.Option.{option_map}
use Rattle.std.proofs.lemmas.Bool.{le-leb, lt-leb}
use Rattle.bits.specs.Rows.{Bits}
use Rattle.bits.specs.Order.{Sound}
use Rattle.laws.proofs.Counts.{newly_counted}
use Rattle.laws.proofs.Paths.{put_requires}
use Rattle.laws.proofs.Required.{no_longer}
use Rattle.laws.proofs.Granted.{delete_granted, insert_full, insert_granted}
use Rattle.faults.specs.declared.Layer.TheVariants.{Table}
use Rattle.faults.specs.Numbers.{full}
use Rattle.laws.specs.Counts.{count, missing}
use Rattle.model.specs.Calls.{Plain, holding, Call, Done, after, answer, delete, deleted, done, insert, inserted, left_by, perform}
use Rattle.model.specs.Outcomes.{Outcome, and_then, granted, refused}
use Rattle.model.specs.Plans.{offsets, plan_ok}
use Rattle.model.specs.Required.{required}
use Rattle.model.specs.Routes.{Routes, Ascending, prefix_of, find, last_hop, put, sound, without}
use Rattle.address.specs.declared.Address.{Ghosts}
use Rattle.plan.specs.declared.Plan.{Plan}
use Rattle.plan.specs.Strides.{strides_of}
use Rattle.routes.specs.Answered.{planned}

module _ {X : Type 0} {G : Ghosts X} (W : ℕ) (o : Option (Plan X G)) (plan : Plan X G) (is : o ≡ Some plan) where
  -- what a call on the open list comes to
  module _ (N : ℕ) (rs : Routes) (call : Call) (d : Outcome Done) (so : perform W N (holding (strides_of plan) rs) call ≡ d) where
    pub is_open : planned (option_map strides_of o) rs ≡ holding (strides_of plan) rs
    is_open = ap (λ (q : Option (Plan X G)). planned (option_map strides_of q) rs) is

    pub answered : answer W N (planned (option_map strides_of o) rs) call ≡ and_then d (λ x. granted x.answered)
    answered =
        ap (λ (p : Plain). answer W N p call) is_open
        ∙ ap (λ (q : Outcome Done). and_then q (λ x. granted x.answered)) so

    pub left_is : after W N (planned (option_map strides_of o) rs) call ≡ left_by (holding (strides_of plan) rs) d
    left_is = ap (λ (p : Plain). after W N p call) is_open ∙ ap (left_by (holding (strides_of plan) rs)) so

-- the tests of a sound prefix pass
module _ (W : ℕ) (a : Bits) (l : ℕ) (long : length a ≡ W) (s : Sound a l) where
  pub short : leb l W ≡ true
  short = let h = s.0 in le-leb l W (omega arith)

  pub clean : sound a l ≡ true
  clean = s.1

module _ (W : ℕ) (plan : List ℕ) (rs : Routes) (a : Bits) (l : ℕ) (long : length a ≡ W) (ok : plan_ok W plan ≡ true) (s : Sound a l) where
  planned_so : plan_ok (length a) plan ≡ true
  planned_so = subst (λ (w : ℕ). plan_ok w plan ≡ true) (sym long) ok

  -- the nodes that are missing are those that the route more requires
  pub taken_are : (n h : ℕ) → n ≡ count (missing rs a l) (offsets plan) → required plan (put rs (prefix_of a l) h) ≡ required plan rs + n
  taken_are n h e =
      put_requires plan rs (prefix_of a l) h ∙ ap (λ (m : ℕ). required plan rs + m) (newly_counted a l plan rs planned_so s.0 ∙ sym e)

  -- and once the route is gone those that it alone required
  pub returned_are : (n h : ℕ) → Ascending rs → find rs (prefix_of a l) ≡ Some h → n ≡ count (missing (without rs (prefix_of a l)) a l) (offsets plan)
      → required plan rs ≡ required plan (without rs (prefix_of a l)) + n
  returned_are n h up there e =
      no_longer plan rs (prefix_of a l) h up there
      ∙ ap (λ (m : ℕ). required plan (without rs (prefix_of a l)) + m) (newly_counted a l plan (without rs (prefix_of a l)) planned_so s.0 ∙ sym e)

-- An insert on an open list: W, N, its plan and routes, how many nodes they require, and the route; n nodes on its way are missing.
module _ (W N : ℕ) (plan : List ℕ) (rs : Routes) (needs : ℕ) (counts : needs ≡ required plan rs) (enough : needs ≤ N) (ok : plan_ok W plan ≡ true)
    (a : Bits) (l h n : ℕ) (long : length a ≡ W) (s : Sound a l) (small : h ≤ last_hop) (missed : n ≡ count (missing rs a l) (offsets plan)) where
  abbrev pub then_held : Routes
  then_held = put rs (prefix_of a l) h

  pub then_required : required plan then_held ≡ needs + n
  then_required = let t = taken_are W plan rs a l long ok s n h missed in omega arith

  pub no_room : N - needs < n → perform W N (holding plan rs) (insert a l h) ≡ refused full Table 0
  no_room more =
      insert_full W N plan rs a l (short W a l long s) (clean W a l long s) h (le-leb h last_hop small)
      (let t = then_required in lt-leb (required plan then_held) N (omega arith))

  pub room : n ≤ N - needs → perform W N (holding plan rs) (insert a l h) ≡ done (inserted (find rs (prefix_of a l)) n) (holding plan then_held)
  room less =
      insert_granted W N plan rs a l (short W a l long s) (clean W a l long s) h (le-leb h last_hop small)
      (let t = then_required in le-leb (required plan then_held) N (omega arith))
      ∙ ap (λ (k : ℕ). done (inserted (find rs (prefix_of a l)) k) (holding plan then_held)) (let t = then_required in omega arith)

-- a delete on an open list, of a route that is there: n nodes on its way are missing once it is gone
module _ (W N : ℕ) (plan : List ℕ) (rs : Routes) (needs : ℕ) (counts : needs ≡ required plan rs) (ok : plan_ok W plan ≡ true) (up : Ascending rs)
    (a : Bits) (l h n : ℕ) (long : length a ≡ W) (s : Sound a l) (there : find rs (prefix_of a l) ≡ Some h)
    (missed : n ≡ count (missing (without rs (prefix_of a l)) a l) (offsets plan)) where
  pub still_required : needs ≡ required plan (without rs (prefix_of a l)) + n
  still_required = let r = returned_are W plan rs a l long ok s n h up there missed in omega arith

  pub gone : perform W N (holding plan rs) (delete a l) ≡ done (deleted h n) (holding plan (without rs (prefix_of a l)))
  gone =
      delete_granted W N plan rs a l (short W a l long s) (clean W a l long s) h there
      ∙ ap (λ (k : ℕ). done (deleted h k) (holding plan (without rs (prefix_of a l)))) (let r = still_required in omega arith)
