use Rattle.std.proofs.Common.{ℕ, List, ap, ◌∙◌, arith, rules}
use Rattle.laws.proofs.Plans.{planned}
use Rattle.messages.specs.Puts.{put_in}
use Rattle.sheets.specs.Written.{head_bytes}
use Rattle.sheets.proofs.Putting.{head_put}
use Rattle.sheets.proofs.write.put_head.Goals as goal

pub overflow_cast-strides : goal.overflow_cast-strides
overflow_cast-strides g c =
    let few = (planned g.A.Address.WIDTH c.strides-strides.result.now c.strides-strides.ensures.right).few in
    omega arith

pub returns-clause-answer : goal.returns-clause-answer
returns-clause-answer g c =
    let plan = c.strides-strides.result.now in
    head_put c.args.number plan c.args.count c.args.output.now c.put.new.output c.put-2.new.output c.put-3.new.output c.put-4.new.output
    c.if-end-output.false
    (search rules)
    c.put-2.ensures
    c.put-3.ensures
    (search rules)
    ∙ ap (λ (p : List ℕ). put_in 0 (head_bytes c.args.number p c.args.count) c.args.output.now) c.strides-strides.ensures.value
