-- What a table that stands for a plain list makes of further calls.
use Rattle.std.proofs.Common.{◌≡◌, ℕ, List, Result, subst}
use Rattle.address.specs.declared.Address.{Ghosts as Kind}
use Rattle.bits.specs.Rows.{Bits}
use Rattle.faults.specs.declared.Fault.{Fault}
use Rattle.model.specs.Calls.{Plain}
use Rattle.model.specs.Nodes.{Nodes}
use Rattle.model.specs.Placements.{Placement}
use Rattle.table.specs.Stands.{Stands}
use Rattle.table.specs.declared.Table.{Table}
use Rattle.history.specs.Runs.{Ran}
use Rattle.history.specs.Twins.{Meets}
use Rattle.history.specs.declared.Call.{Call}
use Rattle.history.specs.declared.Granted.{Granted}
use Rattle.history.proofs.Runs.{Comes, comes}
use Rattle.history.proofs.Uses.{stands_uses}

module _ {X Y : Type 0} {G : Kind X} (nodes : Y → Nodes) (bits : X → Bits) (W : ℕ) where
  pub meets : (N : ℕ) (plain : Plain) (at : Placement) (cs : List (Call X)) (before after : List (Result (Granted X G) Fault)) (t u : Table X Y G)
      → (nodes t.memory).size ≡ N → Stands nodes W t plain at → Ran nodes bits W t cs before after u → Meets nodes bits W N plain cs before after u
  meets N plain at cs before after t u size s ran =
      let c : Comes nodes bits W N plain at cs ran.answers u =
      subst (λ (n : ℕ). Comes nodes bits W n plain at cs ran.answers u) size (comes nodes bits W plain at s ran.runs) in
      record {
        met = t;
        ran = ran;
        answers = c.answers;
        uses_before = stands_uses nodes W t plain at s;
        uses_after = stands_uses nodes W u _ _ c.stands;
      }
