-- A link takes its sheet once and then the blocks in the order of their numbers. It is waiting, or it follows and has a number due.
use Rattle.std.specs.Prelude.{ℕ, suc}
use Rattle.faults.specs.declared.Layer.TheVariants.{Table}
use Rattle.faults.specs.Numbers.{not_open}
use Rattle.model.specs.Blocks.{Followed, follow, read_block}
use Rattle.model.specs.Bytes.{Bytes}
use Rattle.model.specs.Calls.{Plain, shut, holding, load_sheet}
use Rattle.model.specs.Outcomes.{Outcome, and_then, granted, refused}

-- the number that is due next, and the list as it is left
pub record Joined : Type 0 where
  pub due : ℕ
  pub left : Plain

-- a waiting link joins by a sheet; refused, it goes on waiting
unfoldable pub join : ℕ → ℕ → Plain → Bytes → Outcome Joined
join W N shut message = refused not_open Table 0
join W N (holding plan routes) message =
    and_then (load_sheet W N plan message) (λ sheet. granted (record { due = suc sheet.number; left = holding plan sheet.routes }))

-- a following link takes the block that is due, and the next number is due then; refused, it goes on as it was
unfoldable pub follow_block : ℕ → ℕ → ℕ → Plain → Bytes → Outcome Followed
follow_block W N due shut message = refused not_open Table 0
follow_block W N due (holding plan routes) message =
    and_then (read_block W due message) (λ updates. granted (follow W N updates (holding plan routes)))
