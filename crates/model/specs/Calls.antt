-- The plain route list with its nodes: what each of its ten calls answers, and what it leaves. W is the width of the addresses and N the number of nodes.
-- Nothing is presumed of a call's arguments. Tests are in ascending order of the refusals' numbers, and the first that fails refuses;
-- a sheet to be loaded is tested in the order in which it is read, and then whether the nodes suffice.
use Rattle.std.specs.Prelude.{ℕ, ◌-◌, Bool, List, [], ◌∷◌, length, Some, None, Option, nat_le}
use Rattle.faults.specs.declared.Layer.TheVariants.{Table}
use Rattle.faults.specs.Numbers.{not_open, bad_plan, no_nodes, too_long, stray_bits, bad_hop, full, absent, bad_number, too_narrow}
use Rattle.bits.specs.Rows.{Bits}
use Rattle.model.specs.Outcomes.{Outcome, granted, refused, provided, and_then}
use Rattle.model.specs.Plans.{plan_ok}
use Rattle.model.specs.Routes.{Route, Routes, prefix_of, sound, last_hop, find, put, without, longest, smallest, above}
use Rattle.model.specs.Required.{required, path_count}
use Rattle.model.specs.Bytes.{Bytes, in_front}
use Rattle.model.specs.Sheets.{Sheet, last_number, sheet_bytes, read_sheet}

-- shut, or open with a plan and a set of routes
pub data Plain : Type 0 where
  shut : Plain
  holding : List ℕ → Routes → Plain

-- what is asked of a table; an address and a length stand for a prefix
pub data Call : Type 0 where
  open_with : List ℕ → Call
  insert : Bits → ℕ → ℕ → Call
  delete : Bits → ℕ → Call
  lookup : Bits → Call
  exact : Bits → ℕ → Call
  first : Call
  next : Bits → ℕ → Call
  counts : Call
  -- the number of the sheet, and the output as it is
  write : ℕ → Bytes → Call
  -- a sheet
  load : Bytes → Call

pub data Answer : Type 0 where
  opened : Answer
  -- the old hop, and the number of nodes taken: those newly required
  inserted : Option ℕ → ℕ → Answer
  -- the hop, and the number of nodes returned: those no longer required
  deleted : ℕ → ℕ → Answer
  -- the longest matching route, and the number of nodes on the path
  matched : Option Route → ℕ → Answer
  hop_is : Option ℕ → Answer
  route_is : Option Route → Answer
  -- the routes, the nodes required, and the nodes that are left
  counted : ℕ → ℕ → ℕ → Answer
  -- the length of the sheet, and the output as it is then
  written : ℕ → Bytes → Answer
  -- the number of the sheet
  loaded : ℕ → Answer

-- what a granted call answers and leaves
pub record Done : Type 0 where
  pub answered : Answer
  pub left : Plain

abbrev pub done : Answer → Plain → Outcome Done
done a p = granted (record { answered = a; left = p })

-- a refusal by the table itself has no place
abbrev pub tested : Bool → ℕ → Outcome Done → Outcome Done
tested test number rest = provided test number Table 0 rest

-- the calls that name a prefix test its length and its soundness
abbrev pub with_prefix : ℕ → Bits → ℕ → (Bits → Outcome Done) → Outcome Done
with_prefix W address len rest =
    tested (nat_le len W) too_long
    (tested (sound address len) stray_bits
    (rest (prefix_of address len)))

-- opening takes a plan and empties the list, also when it was open
abbrev pub do_open : ℕ → ℕ → List ℕ → Outcome Done
do_open W N strides =
    tested (plan_ok W strides) bad_plan
    (tested (nat_le 1 N) no_nodes
    (done opened (holding strides [])))

-- insert puts in or replaces a route, where the routes that it would leave require no more than N nodes
abbrev pub do_insert : ℕ → ℕ → List ℕ → Routes → Bits → ℕ → ℕ → Outcome Done
do_insert W N plan routes address len hop =
    with_prefix W address len (λ p.
    let then = put routes p hop in
    tested (nat_le hop last_hop) bad_hop
    (tested (nat_le (required plan then) N) full
    (done (inserted (find routes p) (required plan then - required plan routes)) (holding plan then))))

-- delete answers the hop of the route that it removes, and refuses where there is none
abbrev pub removed : List ℕ → Routes → Bits → Option ℕ → Outcome Done
removed plan routes p None = refused absent Table 0
removed plan routes p (Some hop) =
    let then = without routes p in
    done (deleted hop (required plan routes - required plan then)) (holding plan then)

-- write puts the sheet at the front of the output and leaves the bytes behind it
abbrev pub do_write : List ℕ → Routes → ℕ → Bytes → Outcome Done
do_write plan routes number output =
    let sheet = sheet_bytes number plan routes in
    tested (nat_le number last_number) bad_number
    (tested (nat_le (length sheet) (length output)) too_narrow
    (done (written (length sheet) (in_front sheet output)) (holding plan routes)))

-- the sheet that is to be loaded, where the nodes suffice for its routes
unfoldable pub load_sheet : ℕ → ℕ → List ℕ → Bytes → Outcome Sheet
load_sheet W N plan message =
    and_then (read_sheet W plan message) (λ sheet. provided (nat_le (required plan sheet.routes) N) full Table 0 (granted sheet))

-- load keeps the plan and replaces the routes
abbrev pub do_load : ℕ → ℕ → List ℕ → Bytes → Outcome Done
do_load W N plan message =
    and_then (load_sheet W N plan message) (λ sheet. done (loaded sheet.number) (holding plan sheet.routes))

-- a call on an open list
abbrev pub do_call : ℕ → ℕ → List ℕ → Routes → Call → Outcome Done
do_call W N plan routes (open_with strides) = do_open W N strides
do_call W N plan routes (insert address len hop) = do_insert W N plan routes address len hop
do_call W N plan routes (delete address len) = with_prefix W address len (λ p. removed plan routes p (find routes p))
do_call W N plan routes (lookup address) = done (matched (longest routes address) (path_count plan routes address)) (holding plan routes)
do_call W N plan routes (exact address len) = with_prefix W address len (λ p. done (hop_is (find routes p)) (holding plan routes))
do_call W N plan routes first = done (route_is (smallest routes)) (holding plan routes)
do_call W N plan routes (next address len) = with_prefix W address len (λ p. done (route_is (above routes p)) (holding plan routes))
do_call W N plan routes counts = done (counted (length routes) (required plan routes) (N - required plan routes)) (holding plan routes)
do_call W N plan routes (write number output) = do_write plan routes number output
do_call W N plan routes (load message) = do_load W N plan message

-- a shut list grants opening alone
abbrev pub do_shut : ℕ → ℕ → Call → Outcome Done
do_shut W N (open_with strides) = do_open W N strides
do_shut W N (insert address len hop) = refused not_open Table 0
do_shut W N (delete address len) = refused not_open Table 0
do_shut W N (lookup address) = refused not_open Table 0
do_shut W N (exact address len) = refused not_open Table 0
do_shut W N first = refused not_open Table 0
do_shut W N (next address len) = refused not_open Table 0
do_shut W N counts = refused not_open Table 0
do_shut W N (write number output) = refused not_open Table 0
do_shut W N (load message) = refused not_open Table 0

abbrev pub perform : ℕ → ℕ → Plain → Call → Outcome Done
perform W N shut call = do_shut W N call
perform W N (holding plan routes) call = do_call W N plan routes call

-- what a call answers
abbrev pub answer : ℕ → ℕ → Plain → Call → Outcome Answer
answer W N plain call = and_then (perform W N plain call) (λ d. granted d.answered)

-- a refused call leaves the list as it was
abbrev pub left_by : Plain → Outcome Done → Plain
left_by plain (granted d) = d.left
left_by plain (refused number layer place) = plain

-- what a call leaves
abbrev pub after : ℕ → ℕ → Plain → Call → Plain
after W N plain call = left_by plain (perform W N plain call)

-- what a list of calls leaves, refused ones included
abbrev pub after_all : ℕ → ℕ → Plain → List Call → Plain
after_all W N plain [] = plain
after_all W N plain (call ∷ calls) = after_all W N (after W N plain call) calls
