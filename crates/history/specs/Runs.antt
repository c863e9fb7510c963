-- Lists of calls: what the plain list answers to them, and runs of a table, each step being what one call does.
use Rattle.std.specs.Prelude.{◌≡◌, ℕ, List, [], ◌∷◌, ◌++◌, Result, length, map, drop}
use Rattle.address.specs.declared.Address.{Ghosts as Kind}
use Rattle.bits.specs.Rows.{Bits}
use Rattle.faults.specs.declared.Fault.{Fault}
use Rattle.model.specs.Calls as calls
use Rattle.model.specs.Calls.{Answer, Plain, after, answer}
use Rattle.model.specs.Nodes.{Nodes}
use Rattle.model.specs.Outcomes.{Outcome, outcome}
use Rattle.model.specs.Placements.{Placement}
use Rattle.table.specs.Placed.{placed}
use Rattle.table.specs.Stands.{Stands}
use Rattle.table.specs.declared.Table.{Table}
use Rattle.history.specs.Asked.{call_of, said}
use Rattle.history.specs.declared.Call.{Call}
use Rattle.history.specs.declared.Granted.{Granted}

-- what the plain list answers to calls, one after the other
abbrev pub all_answers : ℕ → ℕ → Plain → List calls.Call → List (Outcome Answer)
all_answers W N plain [] = []
all_answers W N plain (c ∷ cs) = answer W N plain c ∷ all_answers W N (after W N plain c) cs

-- nodes and bits: what a memory and an address mean; W the width
module _ {X Y : Type 0} {G : Kind X} (nodes : Y → Nodes) (bits : X → Bits) (W : ℕ) where
  -- what one call does to a table
  pub record Does (t : Table X Y G) (c : Call X) (r : Result (Granted X G) Fault) (u : Table X Y G) : Type 0 where
    pub answer : (plain : Plain) (at : Placement) → Stands nodes W t plain at → outcome (said bits) r ≡ answer W (nodes t.memory).size plain (call_of bits c)
    pub after : (plain : Plain) (at : Placement) → Stands nodes W t plain at
        → Stands nodes W u (after W (nodes t.memory).size plain (call_of bits c)) (placed W (nodes t.memory).size plain at (call_of bits c))
    pub size : (nodes u.memory).size ≡ (nodes t.memory).size

  -- a run: a table, the calls, their answers, and the table as they leave it
  pub data Runs : Table X Y G → List (Call X) → List (Result (Granted X G) Fault) → Table X Y G → Type 0 where
    none : {t : Table X Y G} → Runs t [] [] t
    more : {t u v : Table X Y G} {c : Call X} {r : Result (Granted X G) Fault} {cs : List (Call X)} {rs : List (Result (Granted X G) Fault)}
        → Does t c r u → Runs u cs rs v → Runs t (c ∷ cs) (r ∷ rs) v

  -- a run whose answers are the first of a list, and those behind them are as they were
  pub record Ran (t : Table X Y G) (cs : List (Call X)) (before after : List (Result (Granted X G) Fault)) (u : Table X Y G) : Type 0 where
    pub answers : List (Result (Granted X G) Fault)
    pub runs : Runs t cs answers u
    pub is : after ≡ answers ++ drop (length cs) before

-- answers that lie in their places and are the plain list's, and those behind them as they were
module _ {X : Type 0} {G : Kind X} (bits : X → Bits) (W N : ℕ) where
  pub record Answered (plain : Plain) (cs : List (Call X)) (before after : List (Result (Granted X G) Fault)) : Type 0 where
    pub answers : List (Result (Granted X G) Fault)
    pub is : after ≡ answers ++ drop (length cs) before
    pub told : map (outcome (said bits)) answers ≡ all_answers W N plain (map (call_of bits) cs)
