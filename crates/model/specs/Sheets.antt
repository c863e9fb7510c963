-- A sheet, all routes of a table in one message: a number in 8 bytes, the count of strides in 1 and each stride in 1, the count of routes
-- in 4 and the routes, ascending, each a prefix and its hop in 2 bytes.
use Rattle.std.specs.Prelude.{ℕ, ◌^◌, Bool, true, List, [], ◌∷◌, ◌++◌, length, Some, None, Option, nat_le}
use Rattle.faults.specs.declared.Layer.TheVariants.{Reader as ByReader}
use Rattle.faults.specs.Numbers.{too_long, stray_bits, bad_hop, bad_number, other_plan, out_of_order}
use Rattle.bits.specs.Rows.{Bits}
use Rattle.bits.specs.Order.{before}
use Rattle.model.specs.Bytes.{Bytes, big_endian, byte_count, prefix_bytes, unpack}
use Rattle.model.specs.Outcomes.{Outcome, and_then, granted}
use Rattle.model.specs.Plans.{same_strides}
use Rattle.model.specs.Reading.{Reader, ◌>>=◌, ◌>>◌, give, bytes, end, here, must, number_in, series}
use Rattle.model.specs.Routes.{Route, Routes, route, sound, prefix_of, last_hop}

-- the largest number of a message
abbrev pub last_number : ℕ
last_number = 2 ^ 62

unfoldable pub route_bytes : Route → Bytes
route_bytes r = prefix_bytes r.prefix ++ big_endian 2 r.hop

abbrev pub routes_bytes : Routes → Bytes
routes_bytes [] = []
routes_bytes (r ∷ rs) = route_bytes r ++ routes_bytes rs

-- the sheet of routes, under a plan and a number
unfoldable pub sheet_bytes : ℕ → List ℕ → Routes → Bytes
sheet_bytes number plan routes =
    big_endian 8 number ++ (length plan ∷ (plan ++ (big_endian 4 (length routes) ++ routes_bytes routes)))

-- a prefix as it was read: the place of its length byte, its length, and the bits of all of its bytes
pub record Read : Type 0 where
  pub place : ℕ
  pub len : ℕ
  pub row : Bits

-- a prefix of at most W bits, its bits behind the length not looked at
unfoldable pub read_prefix : ℕ → Reader Read
read_prefix W = do
  place ← here
  len ← number_in 1
  must (nat_le len W) too_long ByReader place
  digits ← bytes (byte_count len)
  give (record { place = place; len = len; row = unpack digits })

-- the prefix is above that of the route before it, if there is one
abbrev pub ascends : Option Route → Bits → Bool
ascends None p = true
ascends (Some r) p = before r.prefix p

unfoldable pub read_route : ℕ → Option Route → Reader Route
read_route W last = do
  read ← read_prefix W
  must (sound read.row read.len) stray_bits ByReader read.place
  at-hop ← here
  hop ← number_in 2
  must (nat_le hop last_hop) bad_hop ByReader at-hop
  let p : Bits = prefix_of read.row read.len
  must (ascends last p) out_of_order ByReader read.place
  give (route p hop)

pub record Sheet : Type 0 where
  pub number : ℕ
  pub routes : Routes

-- the sheet for a table of W bits with this plan
unfoldable pub sheet : ℕ → List ℕ → Reader Sheet
sheet W plan = do
  number ← number_in 8
  must (nat_le number last_number) bad_number ByReader 0
  stride-count ← number_in 1
  strides ← bytes stride-count
  must (same_strides strides plan) other_plan ByReader 8
  route-count ← number_in 4
  routes ← series (read_route W) None route-count
  end
  give (record { number = number; routes = routes })

unfoldable pub read_sheet : ℕ → List ℕ → Bytes → Outcome Sheet
read_sheet W plan message = and_then (sheet W plan message 0) (λ got. granted got.0)
