-- What opening comes to, and the calls that name a prefix once its length and its soundness have passed.
use Rattle.std.proofs.Common.{◌≡◌, ℕ, ◌-◌, true, false, leb, List, [], Some, None}
use Rattle.faults.specs.declared.Layer.TheVariants.{Table}
use Rattle.faults.specs.Numbers.{absent, full}
use Rattle.bits.specs.Rows.{Bits}
use Rattle.model.specs.Outcomes.{refused}
use Rattle.model.specs.Required.{required}
use Rattle.model.specs.Routes.{Routes, prefix_of, sound, last_hop, find, put, without}
use Rattle.model.specs.Plans.{plan_ok}
use Rattle.model.specs.Calls.{Plain, shut, holding, open_with, opened, insert, delete, exact, inserted, deleted, hop_is, done, perform}

pub open_granted : (W N : ℕ) (plain : Plain) (strides : List ℕ) → plan_ok W strides ≡ true → leb 1 N ≡ true
    → perform W N plain (open_with strides) ≡ done opened (holding strides [])
open_granted W N shut strides planned some = simp (planned, some)
open_granted W N (holding plan routes) strides planned some = simp (planned, some)

module _ (W N : ℕ) (plan : List ℕ) (routes : Routes) (a : Bits) (l : ℕ) (short : leb l W ≡ true) (clean : sound a l ≡ true) where
  pub insert_granted : (h : ℕ) → leb h last_hop ≡ true → leb (required plan (put routes (prefix_of a l) h)) N ≡ true
      → perform W N (holding plan routes) (insert a l h)
      ≡ done (inserted (find routes (prefix_of a l)) (required plan (put routes (prefix_of a l) h) - required plan routes)) (holding plan (put routes (prefix_of a l) h))
  insert_granted h small room = simp (short, clean, small, room)

  pub insert_full : (h : ℕ) → leb h last_hop ≡ true → leb (required plan (put routes (prefix_of a l) h)) N ≡ false
      → perform W N (holding plan routes) (insert a l h) ≡ refused full Table 0
  insert_full h small none = simp (short, clean, small, none)

  pub delete_granted : (h : ℕ) → find routes (prefix_of a l) ≡ Some h
      → perform W N (holding plan routes) (delete a l)
      ≡ done (deleted h (required plan routes - required plan (without routes (prefix_of a l)))) (holding plan (without routes (prefix_of a l)))
  delete_granted h there = simp (short, clean, there)

  pub delete_absent : find routes (prefix_of a l) ≡ None → perform W N (holding plan routes) (delete a l) ≡ refused absent Table 0
  delete_absent none = simp (short, clean, none)

  pub exact_granted : perform W N (holding plan routes) (exact a l) ≡ done (hop_is (find routes (prefix_of a l))) (holding plan routes)
  exact_granted = simp (short, clean)
