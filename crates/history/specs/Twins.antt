-- Two tables of which one has a history and the other is new cannot be told apart by further calls.
use Rattle.std.specs.Prelude.{◌≡◌, ℕ, List, Result, map}
use Rattle.address.specs.declared.Address.{Ghosts as Kind}
use Rattle.bits.specs.Rows.{Bits}
use Rattle.faults.specs.declared.Fault.{Fault}
use Rattle.model.specs.Calls.{Plain, after_all}
use Rattle.model.specs.Nodes.{Nodes}
use Rattle.model.specs.Outcomes.{outcome}
use Rattle.table.specs.declared.Table.{Table}
use Rattle.history.specs.Asked.{call_of, said}
use Rattle.history.specs.Runs.{Ran, all_answers}
use Rattle.history.specs.Uses.{AllTold, Uses}
use Rattle.history.specs.declared.Call.{Call}
use Rattle.history.specs.declared.Granted.{Granted}

-- What one table makes of further calls: W the width and N the number of nodes, the plain list as it is before them, the answers as they lie in
-- the list that was lent for them, before and then, and the table in the end.
module _ {X Y : Type 0} {G : Kind X} (nodes : Y → Nodes) (bits : X → Bits) (W N : ℕ) (plain : Plain) (cs : List (Call X)) where
  pub record Meets (before after : List (Result (Granted X G) Fault)) (t : Table X Y G) : Type 0 where
    -- the table as it was before the further calls, and the run of them
    pub met : Table X Y G
    pub ran : Ran nodes bits W met cs before after t
    -- the answers are the plain list's
    pub answers : map (outcome (said bits)) ran.answers ≡ all_answers W N plain (map (call_of bits) cs)
    -- exactly the required nodes are in use, before the calls and after them
    pub uses_before : Uses (nodes met.memory) met.front plain
    pub uses_after : Uses (nodes t.memory) t.front (after_all W N plain (map (call_of bits) cs))

-- Both meet them, and what they answer is the same.
module _ {X Y Z : Type 0} {G : Kind X} (nodes : Y → Nodes) (others : Z → Nodes) (bits : X → Bits) (W N : ℕ) (plain : Plain) (cs : List (Call X)) where
  pub record CannotBeTold (before after : List (Result (Granted X G) Fault)) (t : Table X Y G) (before_second after_second : List (Result (Granted X G) Fault)) (u : Table X Z G) : Type 0 where
    pub first : Meets nodes bits W N plain cs before after t
    pub second : Meets others bits W N plain cs before_second after_second u
    pub same_answers : map (outcome (said bits)) first.ran.answers ≡ map (outcome (said bits)) second.ran.answers
    -- each lookup tells the longest match and the nodes on its path, and full is said exactly when it is so
    pub told : AllTold W N plain (map (call_of bits) cs) (all_answers W N plain (map (call_of bits) cs))
