use Rattle.std.proofs.Common.{◌≡◌, ◌-◌, true, ap, sym, ◌∙◌, arith}
use Rattle.std.proofs.lemmas.Nat.{one_shl}
use Rattle.model.specs.Nodes.{marked}
use Rattle.masks.proofs.Marked.{mark_low, mark_within}
use Rattle.masks.proofs.without_mark.Goals as goal

pub overflow_shl-result : goal.overflow_shl-result
overflow_shl-result c =
    let on : marked c.args.bitmap c.args.position ≡ true = sym c.is_marked.ensures ∙ c.if-is_marked.true in
    mark_low c.args.bitmap c.args.position (omega arith) on

pub overflow_sub-result : goal.overflow_sub-result
overflow_sub-result c =
    let on : marked c.args.bitmap c.args.position ≡ true = sym c.is_marked.ensures ∙ c.if-is_marked.true in
    let low = mark_low c.args.bitmap c.args.position (omega arith) on in
    let within = mark_within c.args.bitmap c.args.position on in
    let bit = one_shl c.args.position 64 low in
    omega arith

pub returns-then-is_marked : goal.returns-then-is_marked
returns-then-is_marked c =
    let on : marked c.args.bitmap c.args.position ≡ true = sym c.is_marked.ensures ∙ c.if-is_marked.true in
    let low = mark_low c.args.bitmap c.args.position (omega arith) on in
    simp on (ap (λ x. c.args.bitmap - x) (one_shl c.args.position 64 low))
