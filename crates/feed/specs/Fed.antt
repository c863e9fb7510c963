-- A table fed by numbers: the call that each number stands for, what the table is after calls, and the number of each answer.
use Rattle.std.specs.Prelude.{◌≡◌, ℕ, ◌+◌, ◌*◌, ◌/◌, ◌%◌, ◌^◌, ◌<◌, ◌≤◌, cond, List, [], ◌∷◌, length, map, take, Some, None, Option, ◌==◌, slice_index}
use Rattle.bits.specs.Rows.{row}
use Rattle.model.specs.Calls.{Answer, Call, Plain, after, after_all, answer, counted, delete, deleted, holding, hop_is, insert, inserted, loaded, lookup, matched, opened, route_is, shut, written}
use Rattle.model.specs.Outcomes.{Outcome, granted, refused}
use Rattle.model.specs.Placements.{Placement, opened_placement}
use Rattle.model.specs.Routes.{Route, Routes}
use Rattle.table.specs.Placed.{placed_all}

-- ---- calls

-- bits 0 to 31 are an IPv4 address, bits 32 to 39 a length, bits 40 to 55 a hop, and the bits above say what is asked
unfoldable pub call_of : ℕ → Call
call_of n =
    let address = row 32 (n % 2 ^ 32) in
    let len = n / 2 ^ 32 % 2 ^ 8 in
    cond (n / 2 ^ 56 == 0) (insert address len (n / 2 ^ 40 % 2 ^ 16))
    (cond (n / 2 ^ 56 == 1) (delete address len)
    (lookup address))

-- A table of N nodes is opened by these strides and then asked these calls, one after another: the plain list that it stands for afterwards,
abbrev pub list_after : ℕ → List ℕ → List ℕ → Plain
list_after N strides calls = after_all 32 N (holding strides []) (map call_of calls)

-- and the placement that the rules give
abbrev pub placement_after : ℕ → List ℕ → List ℕ → Placement
placement_after N strides calls = placed_all 32 N (holding strides []) (opened_placement N) (map call_of calls)

abbrev pub routes_of : Plain → Routes
routes_of shut = []
routes_of (holding plan routes) = routes

-- ---- answers

-- a hop, if any: 1 more than it, or 0 for none
abbrev pub hop_told : Option ℕ → ℕ
hop_told None = 0
hop_told (Some hop) = hop + 1

-- the hop and the length of a route, if any
abbrev pub route_told : Option Route → ℕ
route_told None = 0
route_told (Some r) = r.hop + 1 + length r.prefix * 2 ^ 40

-- the number of nodes from bit 16 on; no other calls are asked
abbrev pub answer_told : Answer → ℕ
answer_told opened = 0
answer_told (inserted old taken) = hop_told old + taken * 2 ^ 16
answer_told (deleted hop returned) = hop_told (Some hop) + returned * 2 ^ 16
answer_told (matched found visits) = route_told found + visits * 2 ^ 16
answer_told (hop_is hop) = 0
answer_told (route_is r) = 0
answer_told (counted routes required free) = 0
answer_told (written long output) = 0
answer_told (loaded number) = 0

-- the number of a refusal from bit 56 on
abbrev pub told : Outcome Answer → ℕ
told (granted a) = answer_told a
told (refused number layer place) = number * 2 ^ 56

-- the first n entries of an output are told of the first n calls, each of the table as those before it left it, and the others are as they were
pub record Answered (N : ℕ) (strides calls before : List ℕ) (n : ℕ) (after : List ℕ) : Type 0 where
  pub size : length after ≡ length before
  pub entries : (k : ℕ) → k < n → slice_index after k ≡ told (answer 32 N (list_after N strides (take k calls)) (call_of (slice_index calls k)))
  pub behind : (k : ℕ) → n ≤ k → slice_index after k ≡ slice_index before k
