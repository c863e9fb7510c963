-- What the answers of a table stand for.
use Rattle.std.specs.Prelude.{ℕ, List, Some, None, Option}
use Rattle.std.specs.Option.{option_map}
use Rattle.address.specs.declared.Address.{Ghosts}
use Rattle.bits.specs.Rows.{Bits}
use Rattle.faults.specs.Numbers.{not_open}
use Rattle.faults.specs.declared.Layer.TheVariants.{Table}
use Rattle.model.specs.Bytes.{Bytes}
use Rattle.model.specs.Calls.{Answer, Plain, counted, deleted, holding, inserted, matched, shut, written}
use Rattle.model.specs.Outcomes.{Outcome, granted, refused}
use Rattle.model.specs.Placements.{Placement, front}
use Rattle.descent.specs.Meant.{held_route}
use Rattle.descent.specs.declared.walk.Matched.{Matched}
use Rattle.table.specs.declared.Counted.{Counted}
use Rattle.table.specs.declared.Deleted.{Deleted}
use Rattle.table.specs.declared.Inserted.{Inserted}

module _ {X : Type 0} {G : Ghosts X} (bits : X → Bits) where
  abbrev pub match_answer : Matched X G → Answer
  match_answer m = matched (option_map (held_route bits) m.found) m.visits

abbrev pub insert_answer : Inserted → Answer
insert_answer x = inserted x.old x.taken

abbrev pub delete_answer : Deleted → Answer
delete_answer x = deleted x.hop x.returned

abbrev pub count_answer : Counted → Answer
count_answer x = counted x.routes x.required x.free

-- the length of the sheet, beside the output as it is then
abbrev pub written_answer : Bytes → ℕ → Answer
written_answer output n = written n output

-- the strides of the plan of an open list
abbrev pub plan_answer : Plain → Option (List ℕ)
plan_answer shut = None
plan_answer (holding plan routes) = Some plan

-- the front of the chain by a placement, which a shut list has not
abbrev pub front_answer : Plain → Placement → Outcome ℕ
front_answer shut at = refused not_open Table 0
front_answer (holding plan routes) at = granted (front at.free)
