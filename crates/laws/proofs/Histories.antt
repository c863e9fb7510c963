-- What every list has that calls have led to.
use Rattle.std.proofs.Common.{◌≡◌, ℕ, ◌≤◌, true, leb, List, [], ◌∷◌, length, is_some, Some, None, Option, sym, refl, ap, ◌∙◌, subst, arith, length-take, leb-true}
use Rattle.bits.specs.Rows.{Bits}
use Rattle.bits.specs.Order.{same}
use Rattle.bits.proofs.Orders.{compared, decided, equal, fails, greater, holds, less, same_eq}
use Rattle.laws.specs.Lists.{HistoryLaws, Holdable, InRange}
use Rattle.laws.proofs.Required.{fewer, none_required}
use Rattle.laws.proofs.Routes.{find_without, find_without_other, put_ascends, without_ascends}
use Rattle.laws.proofs.Written.{sheet_was_loaded, sheet_was_read}
use Rattle.model.specs.Bytes.{Bytes}
use Rattle.model.specs.Calls.{Plain, shut, holding, Call, open_with, insert, delete, lookup, exact, first, next, counts, write, load, Done, done, hop_is, route_is, after, after_all, do_call, do_insert, do_load, do_open, do_write, left_by, load_sheet, removed, with_prefix}
use Rattle.model.specs.Outcomes.{Outcome, granted, refused}
use Rattle.model.specs.Plans.{plan_ok}
use Rattle.model.specs.Required.{required}
use Rattle.model.specs.Routes.{Routes, above, find, last_hop, prefix_of, put, sound, without}
use Rattle.model.specs.Sheets.{Sheet, last_number, sheet_bytes}

-- ---- routes in range stay so

pub put_ranged : (W : ℕ) (rs : Routes) (p : Bits) (h : ℕ) → InRange W rs → length p ≤ W → h ≤ last_hop → InRange W (put rs p h)
put_ranged W [] p h i l m = (l, m, tt)
put_ranged W (r ∷ rs) p h i l m = elim (compared p r.prefix) [
  | less e ↦ simp e (l, m, i)
  | equal e ↦ simp e (l, m, i.2)
  | greater e ↦ simp e (i.0, i.1, put_ranged W rs p h i.2 l m)
]

pub without_ranged : (W : ℕ) (rs : Routes) (p : Bits) → InRange W rs → InRange W (without rs p)
without_ranged W [] p i = tt
without_ranged W (r ∷ rs) p i = elim (decided (same p r.prefix)) [
  | holds e ↦ simp e (without_ranged W rs p i.2)
  | fails e ↦ simp e (i.0, i.1, without_ranged W rs p i.2)
]

-- ---- a list that is in order

Fine : ℕ → ℕ → Plain → Type 0
Fine W N shut = Unit {0}
Fine W N (holding plan routes) = Holdable W plan routes × (required plan routes ≤ N)

module _ (W N : ℕ) where
  -- a prefix that is tested has at most W bits
  prefix_short : (a : Bits) (l : ℕ) → leb l W ≡ true → length (prefix_of a l) ≤ W
  prefix_short a l e = let size = length-take l a in let short = leb-true l W e in omega arith

  open_fine : (p : Plain) (strides : List ℕ) → Fine W N p → Fine W N (left_by p (do_open W N strides))
  unfolding Fine
  open_fine p strides f = elim (decided (plan_ok W strides)) [
    | holds e ↦ elim (decided (leb 1 N)) [
      | holds k ↦ simp (e, k)
          (record { planned = e; ascends = tt; ranged = tt }, let one = none_required strides in let some = leb-true 1 N k in omega arith)
      | fails k ↦ simp (e, k) f
    ]
    | fails e ↦ simp e f
  ]

  module _ (plan : List ℕ) (routes : Routes) (f : Fine W N (holding plan routes)) where
    insert_fine : (a : Bits) (l h : ℕ) → Fine W N (left_by (holding plan routes) (do_insert W N plan routes a l h))
    unfolding Fine
    insert_fine a l h = elim (decided (leb l W)) [
      | holds e ↦ elim (decided (sound a l)) [
        | holds s ↦ elim (decided (leb h last_hop)) [
          | holds k ↦ elim (decided (leb (required plan (put routes (prefix_of a l) h)) N)) [
            | holds n ↦ simp (e, s, k, n) (
              record {
                planned = f.0.planned;
                ascends = put_ascends routes (prefix_of a l) h f.0.ascends;
                ranged = put_ranged W routes (prefix_of a l) h f.0.ranged (prefix_short a l e) (leb-true h last_hop k);
              },
              leb-true (required plan (put routes (prefix_of a l) h)) N n,
            )
            | fails n ↦ simp (e, s, k, n) f
          ]
          | fails k ↦ simp (e, s, k) f
        ]
        | fails s ↦ simp (e, s) f
      ]
      | fails e ↦ simp e f
    ]

    removed_fine : (p : Bits) (o : Option ℕ) → Fine W N (left_by (holding plan routes) (removed plan routes p o))
    unfolding Fine
    removed_fine p None = f
    removed_fine p (Some h) =
        let fewer-now = fewer plan (without routes p) routes (λ q e. kept q e) in (
          record {
            planned = f.0.planned;
            ascends = without_ascends routes p f.0.ascends;
            ranged = without_ranged W routes p f.0.ranged;
          },
          omega (arith, f.1),
        )
      where
        kept : (q : Bits) → is_some (find (without routes p) q) ≡ true → is_some (find routes q) ≡ true
        kept q e = elim (decided (same q p)) [
          | holds k ↦
              (let is = same_eq q p k in
              let none = ap (find (without routes p)) is ∙ find_without routes p in
              let wrong : is_some {T = ℕ} None ≡ true = ap is_some (sym none) ∙ e in
              let z : ◌≡◌ {A = ℕ} 0 1 = cc in
              absurd (omega arith))
          | fails k ↦ ap is_some (sym (find_without_other routes p q k)) ∙ e
        ]

    prefix_fine : (a : Bits) (l : ℕ) (rest : Bits → Outcome Done) → ((p : Bits) → Fine W N (left_by (holding plan routes) (rest p)))
        → Fine W N (left_by (holding plan routes) (with_prefix W a l rest))
    prefix_fine a l rest g = elim (decided (leb l W)) [
      | holds e ↦ elim (decided (sound a l)) [ holds s ↦ simp (e, s) (g (prefix_of a l)) | fails s ↦ simp (e, s) f ]
      | fails e ↦ simp e f
    ]

    write_fine : (number : ℕ) (output : Bytes) → Fine W N (left_by (holding plan routes) (do_write plan routes number output))
    write_fine number output = elim (decided (leb number last_number)) [
      | holds e ↦ elim (decided (leb (length (sheet_bytes number plan routes)) (length output))) [ holds s ↦ simp (e, s) f | fails s ↦ simp (e, s) f ]
      | fails e ↦ simp e f
    ]

    load_fine : (message : Bytes) → Fine W N (left_by (holding plan routes) (do_load W N plan message))
    unfolding Fine
    load_fine message = by (load_sheet W N plan message) refl
      where
        by : (o : Outcome Sheet) → load_sheet W N plan message ≡ o → Fine W N (left_by (holding plan routes) (do_load W N plan message))
        by (granted s) e =
            let (read, room) = sheet_was_loaded W N plan message s e in
            let was = sheet_was_read W plan message s read in
            simp e (record { planned = f.0.planned; ascends = was.ascending; ranged = was.in_range }, room)
        by (refused number layer place) e = simp e f

    call_fine : (call : Call) → Fine W N (left_by (holding plan routes) (do_call W N plan routes call))
    call_fine (open_with strides) = open_fine (holding plan routes) strides f
    call_fine (insert a l h) = insert_fine a l h
    call_fine (delete a l) = prefix_fine a l (λ p. removed plan routes p (find routes p)) (λ p. removed_fine p (find routes p))
    call_fine (lookup a) = f
    call_fine (exact a l) = prefix_fine a l (λ p. done (hop_is (find routes p)) (holding plan routes)) (λ p. f)
    call_fine first = f
    call_fine (next a l) = prefix_fine a l (λ p. done (route_is (above routes p)) (holding plan routes)) (λ p. f)
    call_fine counts = f
    call_fine (write number output) = write_fine number output
    call_fine (load message) = load_fine message

  step : (p : Plain) (call : Call) → Fine W N p → Fine W N (after W N p call)
  step (holding plan routes) call f = call_fine plan routes f call
  step shut (open_with strides) f = open_fine shut strides f
  step shut (insert a l h) f = f
  step shut (delete a l) f = f
  step shut (lookup a) f = f
  step shut (exact a l) f = f
  step shut first f = f
  step shut (next a l) f = f
  step shut counts f = f
  step shut (write number output) f = f
  step shut (load message) f = f

  all_fine : (p : Plain) (calls : List Call) → Fine W N p → Fine W N (after_all W N p calls)
  all_fine p [] f = f
  all_fine p (call ∷ calls) f = all_fine (after W N p call) calls (step p call f)

  ends_fine : (calls : List Call) (plan : List ℕ) (routes : Routes) → after_all W N shut calls ≡ holding plan routes
      → Holdable W plan routes × (required plan routes ≤ N)
  unfolding Fine
  ends_fine calls plan routes e = subst (Fine W N) e (all_fine shut calls tt)

pub history_laws : HistoryLaws
history_laws =
    record {
      holdable = λ W N calls plan routes e. (ends_fine W N calls plan routes e).0;
      enough = λ W N calls plan routes e. (ends_fine W N calls plan routes e).1;
    }
