-- What a set of routes is: its routes in ascending order, and for how many there is room.
use Rattle.std.specs.Prelude.{ℕ}
use Rattle.model.specs.Routes.{Routes}

pub record Kept : Type 0 where
  pub routes : Routes
  -- so many can be held before memory is asked for
  pub room : ℕ
