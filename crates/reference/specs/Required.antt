-- What a list's plan says of its nodes; while there is no plan, nothing is required.
use Rattle.std.specs.Prelude.{ℕ, List, Option, Some, None}
use Rattle.model.specs.Required.{required}
use Rattle.model.specs.Routes.{Routes}

-- how many nodes the routes require by the strides of the plan
abbrev pub required_by : Option (List ℕ) → Routes → ℕ
required_by None routes = 0
required_by (Some strides) routes = required strides routes
