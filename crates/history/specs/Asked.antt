-- The call of the plain list that a call stands for, and what its answer stands for.
use Rattle.std.specs.Prelude.{List, map}
use Rattle.std.specs.Option.{option_map}
use Rattle.address.specs.declared.Address.{Ghosts}
use Rattle.bits.specs.Rows.{Bits}
use Rattle.model.specs.Calls as calls
use Rattle.model.specs.Calls.{Answer, opened, hop_is, route_is, open_with, insert, delete, lookup, exact, first, next, counts}
use Rattle.descent.specs.Meant.{held_route}
use Rattle.routes.specs.declared.Route.{Route as Entry}
use Rattle.table.specs.Answers.{insert_answer, delete_answer, match_answer, count_answer}
use Rattle.history.specs.declared.Call.{Call}
use Rattle.history.specs.declared.Call.TheVariants.{Open, Insert, Delete, Lookup, Exact, First, Next, Counts}
use Rattle.history.specs.declared.Granted.{Granted}
use Rattle.history.specs.declared.Granted.TheVariants.{Opened, Inserted, Deleted, Matched, HopIs, RouteIs, Counted}

module _ {X : Type 0} (bits : X → Bits) where
  abbrev pub call_of : Call X → calls.Call
  call_of (Open strides) = open_with strides.now
  call_of (Insert p hop) = insert (bits p.address) p.length hop
  call_of (Delete p) = delete (bits p.address) p.length
  call_of (Lookup address) = lookup (bits address)
  call_of (Exact p) = exact (bits p.address) p.length
  call_of First = first
  call_of (Next p) = next (bits p.address) p.length
  call_of Counts = counts

  abbrev pub said : {G : Ghosts X} → Granted X G → Answer
  said Opened = opened
  said (Inserted x) = insert_answer x
  said (Deleted x) = delete_answer x
  said (Matched m) = match_answer bits m
  said (HopIs hop) = hop_is hop
  said (RouteIs r) = route_is (option_map (held_route bits) r)
  said (Counted x) = count_answer x

  -- the inserts of routes, in their order
  abbrev pub inserts : {G : Ghosts X} → List (Entry X G) → List calls.Call
  inserts routes = map (λ r. insert (bits r.prefix.address) r.prefix.length r.hop) routes
