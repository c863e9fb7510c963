use Rattle.std.proofs.Common.{ℕ, map, ap, sym, ◌∙◌, arith}
use Rattle.std.proofs.lemmas.List.{length-map}
use Rattle.faults.specs.declared.Fault.{Fault}
use Rattle.faults.specs.Numbers.{number_of}
use Rattle.model.specs.Outcomes.{refused}
use Rattle.plan.specs.Strides.{strides_of}
use Rattle.routes.specs.Meant.{meant}
use Rattle.messages.specs.Puts.{put_in}
use Rattle.sheets.specs.Written.{head_bytes}
use Rattle.sheets.proofs.Putting.{sheet_back, sheet_put, sheet_too_long}
use Rattle.sheets.proofs.write.write.Goals as goal

pub returns-then-not-has_room-clause-answer : goal.returns-then-not-has_room-clause-answer
returns-then-not-has_room-clause-answer g c =
    ap (λ (f : Fault). refused (number_of f.refusal) f.layer f.place) c.of_table-then-not-has_room.ensures
    ∙ sym
    (sheet_too_long c.args.number (strides_of c.args.plan.now) (map (meant g.A.Address.bits) c.args.routes.now) c.args.output.now
    c.if-number-gt-LAST_NUMBER.false (sym c.has_room.ensures ∙ c.if-not-has_room.true))

pub returns-clause-answer : goal.returns-clause-answer
returns-clause-answer g c =
    c.put_routes.ensures
    ∙ sheet_put c.args.number (strides_of c.args.plan.now) (map (meant g.A.Address.bits) c.args.routes.now) c.args.output.now
    c.if-number-gt-LAST_NUMBER.false (sym c.has_room.ensures ∙ c.if-not-has_room.false) c.in_ok-place.place c.put_head.new.output
    (c.in_ok-place.ensures.answer
    ∙ ap (λ (n : ℕ). put_in 0 (head_bytes c.args.number (strides_of c.args.plan.now) n) c.args.output.now) (sym (length-map c.args.routes.now (meant g.A.Address.bits))))

pub returns-clause-back : goal.returns-clause-back
returns-clause-back g c o few =
    let long = length-map c.args.routes.now (meant g.A.Address.bits) in
    sheet_back c.args.number (strides_of c.args.plan.now) (map (meant g.A.Address.bits) c.args.routes.now) g.A.Address.WIDTH c.args.output.now
    c.put_routes.new.output c.put_routes.result (returns-clause-answer g c) o (omega arith)
