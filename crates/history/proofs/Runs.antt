-- Runs: one call more at the end, and what a run comes to.
use Rattle.std.proofs.Common.{◌≡◌, ℕ, suc, ◌+◌, ◌<◌, ◌≤◌, List, [], ◌∷◌, ◌++◌, Result, length, take, drop, map, get_or, slice_set, sym, refl, ap, ap₂, ◌∙◌, subst, arith, append_assoc, add-one, length-take-le}
use Rattle.std.proofs.Math.Seq.{drop-cons, set-append_seam, take-suc}
use Rattle.address.specs.declared.Address.{Ghosts as Kind}
use Rattle.bits.specs.Rows.{Bits}
use Rattle.faults.specs.declared.Fault.{Fault}
use Rattle.model.specs.Calls.{Answer, Plain, after, after_all}
use Rattle.model.specs.Nodes.{Nodes}
use Rattle.model.specs.Outcomes.{Outcome, outcome}
use Rattle.model.specs.Placements.{Placement}
use Rattle.table.specs.Placed.{placed, placed_all}
use Rattle.table.specs.Stands.{Stands}
use Rattle.table.specs.declared.Table.{Table}
use Rattle.history.specs.Asked.{call_of, said}
use Rattle.history.specs.Runs.{Does, Ran, Runs, all_answers, more, none}
use Rattle.history.specs.declared.Call.{Call}
use Rattle.history.specs.declared.Granted.{Granted}

module _ {X Y : Type 0} {G : Kind X} (nodes : Y → Nodes) (bits : X → Bits) (W : ℕ) where
  pub one_more : {t u v : Table X Y G} {cs : List (Call X)} {rs : List (Result (Granted X G) Fault)} {c : Call X} {r : Result (Granted X G) Fault} → Runs nodes bits W t cs rs u → Does nodes bits W u c r v
      → Runs nodes bits W t (cs ++ (c ∷ [])) (rs ++ (r ∷ [])) v
  one_more none d = more d none
  one_more (more e run) d = more e (one_more run d)

  pub as_long : {t u : Table X Y G} {cs : List (Call X)} {rs : List (Result (Granted X G) Fault)} → Runs nodes bits W t cs rs u → length rs ≡ length cs
  as_long none = refl
  as_long (more e run) = ap suc (as_long run)

  -- the calls so far, and the next
  pub ran_more : (t u v : Table X Y G) (calls : List (Call X)) (before now : List (Result (Granted X G) Fault)) (c : Call X) (r : Result (Granted X G) Fault) (i : ℕ) → i < length calls → length calls ≤ length before
      → c ≡ get_or calls i c → Ran nodes bits W t (take i calls) before now u → Does nodes bits W u c r v
      → Ran nodes bits W t (take (i + 1) calls) before (slice_set now i r) v
  ran_more t u v calls before now c r i inside room is ran d =
      let so_far = length-take-le i calls (omega arith) in
      let long = as_long ran.runs in
      let here : length ran.answers ≡ i = omega arith in
      let next : take (i + 1) calls ≡ take i calls ++ (c ∷ []) =
      ap (λ (k : ℕ). take k calls) (add-one i) ∙ take-suc calls i c inside ∙ ap (λ (x : Call X). take i calls ++ (x ∷ [])) (sym is) in
      let next_long : length (take (i + 1) calls) ≡ suc i = length-take-le (i + 1) calls (omega arith) ∙ add-one i in
      record {
        answers = ran.answers ++ (r ∷ []);
        runs = subst (λ (cs : List (Call X)). Runs nodes bits W t cs (ran.answers ++ (r ∷ [])) v) (sym next) (one_more ran.runs d);
        is =
            ap (λ (xs : List (Result (Granted X G) Fault)). slice_set xs i r) (ran.is ∙ ap (λ (k : ℕ). ran.answers ++ drop k before) so_far)
            ∙ ap₂ (λ (k : ℕ) (xs : List (Result (Granted X G) Fault)). slice_set (ran.answers ++ xs) k r) (sym here) (drop-cons before i r (omega arith))
            ∙ set-append_seam ran.answers (get_or before i r) (drop (suc i) before) r
            ∙ sym (append_assoc ran.answers (r ∷ []) (drop (suc i) before))
            ∙ ap (λ (k : ℕ). (ran.answers ++ (r ∷ [])) ++ drop k before) (sym next_long);
      }

  -- what a run comes to: the plain list's answers, and the table stands for what the calls leave
  pub record Comes (N : ℕ) (plain : Plain) (at : Placement) (cs : List (Call X)) (rs : List (Result (Granted X G) Fault)) (u : Table X Y G) : Type 0 where
    pub answers : map (outcome (said bits)) rs ≡ all_answers W N plain (map (call_of bits) cs)
    pub stands : Stands nodes W u (after_all W N plain (map (call_of bits) cs)) (placed_all W N plain at (map (call_of bits) cs))
    pub size : (nodes u.memory).size ≡ N

  pub comes : {t u : Table X Y G} {cs : List (Call X)} {rs : List (Result (Granted X G) Fault)} (plain : Plain) (at : Placement) → Stands nodes W t plain at → Runs nodes bits W t cs rs u
      → Comes (nodes t.memory).size plain at cs rs u
  comes plain at s none = record { answers = refl; stands = s; size = refl }
  comes {t = t} {u = u} plain at s (more {u = m} {c = c} {r = r} {cs = cs} {rs = rs} d run) =
      let N = (nodes t.memory).size in
      let rest : Comes N (after W N plain (call_of bits c)) (placed W N plain at (call_of bits c)) cs rs u =
      subst (λ (n : ℕ). Comes n (after W N plain (call_of bits c)) (placed W N plain at (call_of bits c)) cs rs u) d.size
      (comes (after W N plain (call_of bits c)) (placed W N plain at (call_of bits c)) (d.after plain at s) run) in
      record {
        answers = ap₂ (λ (x : Outcome Answer) (xs : List (Outcome Answer)). x ∷ xs) (d.answer plain at s) rest.answers;
        stands = rest.stands;
        size = rest.size;
      }
