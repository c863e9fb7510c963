-- The plain list that a route list stands for, and what its calls come to there.
use Rattle.std.specs.Prelude.{ℕ, length}
use Rattle.std.specs.Option.{option_map}
use Rattle.address.specs.declared.Address.{Ghosts}
use Rattle.bits.specs.Rows.{Bits}
use Rattle.model.specs.Outcomes.{Outcome}
use Rattle.model.specs.Bytes.{Bytes}
use Rattle.model.specs.Calls.{Plain, shut, holding, Call, Answer, inserted, deleted, matched, counted, written, answer, after}
use Rattle.plan.specs.Strides.{strides_of}
use Rattle.routes.specs.Answered.{planned}
use Rattle.routes.specs.Meant.{meant}
use Rattle.reference.specs.declared.Counted.{Counted}
use Rattle.reference.specs.declared.Deleted.{Deleted}
use Rattle.reference.specs.declared.Inserted.{Inserted}
use Rattle.reference.specs.declared.Matched.{Matched}
use Rattle.reference.specs.declared.RouteList.{RouteList}

module _ {X : Type 0} {G : Ghosts X} where
  -- the plain list that it stands for
  abbrev pub shown : RouteList X G → Plain
  shown t = planned (option_map strides_of t.plan) t.routes.routes

  -- what that plain list answers to a call, and what the call leaves of it
  abbrev pub answer_of : ℕ → RouteList X G → Call → Outcome Answer
  answer_of W t call = answer W t.nodes (shown t) call

  abbrev pub left_of : ℕ → RouteList X G → Call → Plain
  left_of W t call = after W t.nodes (shown t) call

  -- what a lookup answered
  abbrev pub match_answer : (X → Bits) → Matched X G → Answer
  match_answer bits m = matched (option_map (meant bits) m.route) m.path

-- what an insert, a delete and a count answered
abbrev pub insert_answer : Inserted → Answer
insert_answer x = inserted x.old x.taken

abbrev pub delete_answer : Deleted → Answer
delete_answer x = deleted x.hop x.returned

abbrev pub count_answer : Counted → Answer
count_answer x = counted x.routes x.required x.free

-- what a write answered, beside the output as it is then
abbrev pub written_answer : Bytes → ℕ → Answer
written_answer output n = written n output

-- how many routes a plain list has
abbrev pub route_count : Plain → ℕ
route_count shut = 0
route_count (holding plan routes) = length routes
