-- What writing a sheet comes to.
use Rattle.std.specs.Prelude.{ℕ, List, ◌∷◌, ◌++◌, length, map, nat_le}
use Rattle.faults.specs.declared.Layer.TheVariants.{Table}
use Rattle.faults.specs.Numbers.{bad_number}
use Rattle.model.specs.Bytes.{Bytes, big_endian}
use Rattle.model.specs.Outcomes.{Outcome, provided}
use Rattle.model.specs.Routes.{Routes}
use Rattle.model.specs.Sheets.{last_number, routes_bytes, sheet_bytes}
use Rattle.address.specs.declared.Address.{Ghosts}
use Rattle.bits.specs.Rows.{Bits}
use Rattle.messages.specs.Puts.{put_in}
use Rattle.routes.specs.Meant.{meant}
use Rattle.routes.specs.declared.Route.{Route as Entry}

-- the front of a sheet, before its routes
abbrev pub head_bytes : ℕ → List ℕ → ℕ → Bytes
head_bytes number plan count = big_endian 8 number ++ (length plan ∷ (plan ++ big_endian 4 count))

-- the length of the sheet, and the output with the sheet at its front
abbrev pub write_sheet : ℕ → List ℕ → Routes → Bytes → Outcome (ℕ × Bytes)
write_sheet number plan routes output =
    provided (nat_le number last_number) bad_number Table 0 (put_in 0 (sheet_bytes number plan routes) output)

module _ {X : Type 0} {G : Ghosts X} (bits : X → Bits) where
  -- the bytes of routes of the code
  abbrev pub bytes_of : List (Entry X G) → Bytes
  bytes_of rs = routes_bytes (map (meant bits) rs)
