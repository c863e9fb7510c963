-- The sheet of the definitions that a sheet of the code stands for: its routes are those that the definitions read from its place on.
use Rattle.std.specs.Prelude.{ℕ, List, [], ◌∷◌, Option, Some, None}
use Rattle.std.specs.Option.{option_map}
use Rattle.address.specs.declared.Address.{Ghosts}
use Rattle.model.specs.Outcomes.{Outcome, and_then, granted, refused}
use Rattle.model.specs.Reading.{series}
use Rattle.model.specs.Required.{required}
use Rattle.model.specs.Routes.{Route, Routes as Plain}
use Rattle.model.specs.Sheets.{Sheet as Meant, read_route}
use Rattle.routes.specs.Meant.{meant}
use Rattle.sheets.specs.declared.Routes.{Routes}
use Rattle.sheets.specs.declared.Sheet.{Sheet}

-- the routes of a reading, none where it is refused
abbrev pub read_or_none : Outcome (Plain × ℕ) → Plain
read_or_none (granted got) = got.0
read_or_none (refused number layer place) = []

-- the last of some routes
abbrev pub last_of : Plain → Option Route
last_of [] = None
last_of (r ∷ []) = Some r
last_of (r ∷ s ∷ rs) = last_of (s ∷ rs)

-- routes that are read, as how many nodes they require, and the place behind them
abbrev pub count_read : List ℕ → Outcome (Plain × ℕ) → Outcome (ℕ × ℕ)
count_read plan read = and_then read (λ got. granted (required plan got.0, got.1))

module _ {X : Type 0} {G : Ghosts X} (W : ℕ) where
  -- so many routes, as the definitions read them
  abbrev pub to_read : ℕ → Routes X G → Outcome (Plain × ℕ)
  to_read count r = series (read_route W) (option_map (meant G.bits) r.last) count r.reader.bytes.now r.reader.place

  abbrev pub held : Sheet X G → Meant
  held s = record { number = s.number; routes = read_or_none (to_read s.count s.routes) }
