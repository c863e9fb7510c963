-- Opening, an insert, a delete and a load leave a sound placement.
use Rattle.std.proofs.Common.{◌≡◌, ℕ, ◌≤◌, Bool, true, false, not, ◌&&◌, ◌||◌, List, [], ◌∷◌, ◌++◌, length, is_some, Some, sym, refl, ap, ◌∙◌, subst, arith}
use Rattle.bits.specs.Rows.{Bits}
use Rattle.bits.specs.Order.{same}
use Rattle.bits.proofs.Orders.{holds, fails, decided, same_eq}
use Rattle.laws.specs.Trees.{PlacementLaws}
use Rattle.laws.proofs.Bools.{or_false}
use Rattle.laws.proofs.Paths.{member_append, member_distinct, or_swap, put_members, same_count}
use Rattle.laws.proofs.Returning.{return_shrunk, way_single}
use Rattle.laws.proofs.Taking.{Grown, Proper, more_paths, opened_members, opened_proper, proper, sound, take_grown}
use Rattle.laws.proofs.Ways.{rest_all, root_required, way_required}
use Rattle.model.specs.Placements.{Placement, SoundPlacement, after_delete, after_insert, after_inserts, after_load, opened_placement, paths, return_all}
use Rattle.model.specs.Plans.{offsets, plan_ok}
use Rattle.model.specs.Required.{distinct, member, required, required_paths, way, ways}
use Rattle.model.specs.Routes.{Routes, find, put, without}

-- the required paths, some of them more than once
abbrev wanted : List ℕ → Routes → List Bits
wanted plan routes = [] ∷ ways (offsets plan) routes

required_members : (plan : List ℕ) (routes : Routes) (q : Bits) → member q (required_paths plan routes) ≡ member q (wanted plan routes)
unfolding required_paths
required_members plan routes q = member_distinct q (wanted plan routes)

required_count : (plan : List ℕ) (routes : Routes) → required plan routes ≡ length (distinct (wanted plan routes))
unfolding required required_paths
required_count plan routes = refl

-- ---- an insert

insert_grown : (N : ℕ) (plan : List ℕ) (p : Bits) (at : Placement) → Proper N at → length (distinct (way (offsets plan) p ++ paths at.used)) ≤ N
    → Grown N (way (offsets plan) p) at (after_insert plan p at)
unfolding after_insert
insert_grown N plan p at is l = take_grown N (way (offsets plan) p) at is l

module _ (N : ℕ) (plan : List ℕ) (routes : Routes) (at : Placement) (before : SoundPlacement N plan routes at) (p : Bits) (h : ℕ) where
  put_wanted : (q : Bits) → member q (way (offsets plan) p ++ paths at.used) ≡ member q (wanted plan (put routes p h))
  put_wanted q =
      let w = member q (way (offsets plan) p) in
      member_append q (way (offsets plan) p) (paths at.used)
      ∙ ap (λ t. w || t) (before.served q ∙ required_members plan routes q)
      ∙ or_swap w (same q []) (member q (ways (offsets plan) routes))
      ∙ ap (λ t. same q [] || t) (sym (put_members (offsets plan) routes p h q ∙ member_append q (way (offsets plan) p) (ways (offsets plan) routes)))

  insert_sound : required plan (put routes p h) ≤ N → SoundPlacement N plan (put routes p h) (after_insert plan p at)
  insert_sound l =
      let size = same_count (way (offsets plan) p ++ paths at.used) (wanted plan (put routes p h)) put_wanted in
      let counted = required_count plan (put routes p h) in
      let grown = insert_grown N plan p at (proper N plan routes at before) (omega arith) in
      sound N plan (put routes p h) (after_insert plan p at) grown.is
      (λ q. grown.members q ∙ put_wanted q ∙ sym (required_members plan (put routes p h) q))

-- ---- a load

-- the ways of a route and of others, before some paths
regrouped : (xs ys zs : List Bits) (q : Bits) → member q (ys ++ (xs ++ zs)) ≡ member q ((xs ++ ys) ++ zs)
regrouped xs ys zs q =
    member_append q ys (xs ++ zs)
    ∙ ap (λ t. member q ys || t) (member_append q xs zs)
    ∙ or_swap (member q ys) (member q xs) (member q zs)
    ∙ sym (member_append q (xs ++ ys) zs ∙ ap (λ t. t || member q zs) (member_append q xs ys) ∙ or_assoc (member q xs) (member q ys) (member q zs))
  where
    or_assoc : (a b c : Bool) → ((a || b) || c) ≡ (a || (b || c))
    or_assoc true b c = refl
    or_assoc false b c = refl

-- behind the same paths
append_same : (xs ys zs : List Bits) → ((q : Bits) → member q ys ≡ member q zs) → (q : Bits) → member q (xs ++ ys) ≡ member q (xs ++ zs)
append_same xs ys zs h q = member_append q xs ys ∙ ap (λ t. member q xs || t) (h q) ∙ sym (member_append q xs zs)

inserts_grown : (N : ℕ) (plan : List ℕ) (rs : Routes) (at : Placement) → Proper N at → length (distinct (ways (offsets plan) rs ++ paths at.used)) ≤ N
    → Grown N (ways (offsets plan) rs) at (after_inserts plan rs at)
inserts_grown N plan [] at is l = record { is = is; members = λ q. refl }
inserts_grown N plan (r ∷ rs) at is l =
    let os = offsets plan in
    let first = way os r.prefix in
    let old = paths at.used in
    let enough = same_count (ways os rs ++ (first ++ old)) ((first ++ ways os rs) ++ old) (regrouped first (ways os rs) old) in
    let fewer = more_paths (ways os rs) (first ++ old) in
    let step = insert_grown N plan r.prefix at is (omega arith) in
    let then = after_insert plan r.prefix at in
    let same-paths = append_same (ways os rs) (paths then.used) (first ++ old) step.members in
    let size = same_count (ways os rs ++ paths then.used) (ways os rs ++ (first ++ old)) same-paths in
    let rest = inserts_grown N plan rs then step.is (omega arith) in
    record { is = rest.is; members = λ q. rest.members q ∙ same-paths q ∙ regrouped first (ways os rs) old q }

module _ (N : ℕ) (plan : List ℕ) (routes : Routes) where
  load_wanted : (q : Bits) → member q (ways (offsets plan) routes ++ paths (opened_placement N).used) ≡ member q (wanted plan routes)
  unfolding opened_placement
  load_wanted q = member_append q (ways (offsets plan) routes) ([] ∷ []) ∙ or_turn (member q (ways (offsets plan) routes)) (same q [])
    where
      or_turn : (a b : Bool) → (a || (b || false)) ≡ (b || a)
      or_turn true true = refl
      or_turn true false = refl
      or_turn false true = refl
      or_turn false false = refl

  one_opened : length (distinct (paths (opened_placement N).used)) ≡ 1
  unfolding opened_placement
  one_opened = refl

  load_sound : required plan routes ≤ N → SoundPlacement N plan routes (after_load N plan routes)
  unfolding after_load
  load_sound l =
      let ways-all = ways (offsets plan) routes in
      let size = same_count (ways-all ++ paths (opened_placement N).used) (wanted plan routes) load_wanted in
      let counted = required_count plan routes in
      let fewer = more_paths ways-all (paths (opened_placement N).used) in
      let one = one_opened in
      let grown = inserts_grown N plan routes (opened_placement N) (opened_proper N (omega arith)) (omega arith) in
      sound N plan routes (after_inserts plan routes (opened_placement N)) grown.is
      (λ q. grown.members q ∙ load_wanted q ∙ sym (required_members plan routes q))

-- ---- a delete

-- a route less takes only paths on its own way
pub without_ways : (os : List ℕ) (rs : Routes) (p q : Bits) → member q (way os p) ≡ false → member q (ways os rs) ≡ member q (ways os (without rs p))
without_ways os [] p q h = refl
without_ways os (r ∷ rs) p q h =
    let rest = without_ways os rs p q h in
    member_append q (way os r.prefix) (ways os rs) ∙ elim (decided (same p r.prefix)) [
      | holds e ↦
          (let none : member q (way os r.prefix) ≡ false = subst (λ (x : Bits). member q (way os x) ≡ false) (same_eq p r.prefix e) h in
          simp (e, none) rest)
      | fails e ↦
          simp e (ap (λ t. member q (way os r.prefix) || t) rest ∙ sym (member_append q (way os r.prefix) (ways os (without rs p))))
    ]

module _ (W N : ℕ) (plan : List ℕ) (routes : Routes) (at : Placement) (p : Bits) (h : ℕ) (planned : plan_ok W plan ≡ true)
    (before : SoundPlacement N plan routes at) (found : find routes p ≡ Some h) where
  abbrev kept : List Bits
  kept = required_paths plan (without routes p)

  way_served : (q : Bits) → member q (way (offsets plan) p) ≡ true → member q (paths at.used) ≡ true
  way_served q e = before.served q ∙ way_required plan routes p q (ap is_some found) e

  kept_members : (q : Bits) → (member q (paths at.used) && (member q kept || not (member q (way (offsets plan) p)))) ≡ member q kept
  kept_members q = elim (decided (member q (way (offsets plan) p))) [
    | holds e ↦ simp (e, way_served q e) (or_false (member q kept))
    | fails e ↦
        (let same-wanted : member q (paths at.used) ≡ member q kept =
        before.served q ∙ required_members plan routes q
        ∙ ap (λ t. same q [] || t) (without_ways (offsets plan) routes p q e)
        ∙ sym (required_members plan (without routes p) q) in
        simp (e, same-wanted) (and_itself (member q kept)))
  ]
    where
      and_itself : (t : Bool) → (t && (t || true)) ≡ t
      and_itself true = refl
      and_itself false = refl

  delete_sound : SoundPlacement N plan (without routes p) (after_delete plan (without routes p) p at)
  unfolding after_delete
  delete_sound =
      let shrunk = return_shrunk N kept (way (offsets plan) p) at (proper N plan routes at before) (root_required plan (without routes p))
      (way_single plan 0 p (rest_all W plan planned).range) way_served in
      sound N plan (without routes p) (return_all kept (way (offsets plan) p) at) shrunk.is (λ q. shrunk.members q ∙ kept_members q)

pub placement_laws : PlacementLaws
placement_laws = record {
  opens = λ N plan l. sound N plan [] (opened_placement N) (opened_proper N l) (opened_members N plan);
  inserts = λ N plan routes at p h before l. insert_sound N plan routes at before p h l;
  deletes = delete_sound;
  loads = load_sound;
}
