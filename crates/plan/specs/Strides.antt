-- What a plan is: its strides, in order.
use Rattle.std.specs.Prelude.{ℕ, List}
use Rattle.address.specs.declared.Address.{Ghosts}
use Rattle.plan.specs.declared.Plan.{Plan}

module _ {X : Type 0} {G : Ghosts X} where
  abbrev pub strides_of : Plan X G → List ℕ
  strides_of plan = plan.strides.items
