use Rattle.std.proofs.Common.{◌≡◌, ℕ, ◌+◌, ◌≤◌, eqb, length, sym, ap, ◌∙◌, inl, inr, ⊎_elim, arith}
use Rattle.std.proofs.lemmas.List.{drop_all}
use Rattle.std.proofs.lemmas.Bool.{eqb-true, eqb-false}
use Rattle.model.specs.Plans.{sum, in_range}
use Rattle.plan.proofs.Strides.{one_above, plan_size, plan_range, plan_sum, range_stop, range_more, sum_more}
use Rattle.plan.proofs.is_plan.Goals as goal

pub returns-then-is_empty : goal.returns-then-is_empty
returns-then-is_empty c =
    let ss = c.args.strides.now in
    plan_size c.args.width ss
    (⊎_elim (λ e. inl (eqb-true (length ss) 0 (sym c.is_empty.ensures ∙ e))) (λ e. inr e.1) c.then-is_empty.either)

pub returns-then-stride-lt1 : goal.returns-then-stride-lt1
returns-then-stride-lt1 c =
    let ss = c.args.strides.now in
    plan_range c.args.width ss
    (c.loop-i.invariant.2 ∙ range_stop ss c.loop-i.i c.loop-i-test.true (⊎_elim inl (λ e. inr e.1) c.then-stride-lt1.either))

pub loop-i-preserved : goal.loop-i-preserved
loop-i-preserved c =
    let ss = c.args.strides.now in
    let i = c.loop-i.i in
    let more = sum_more ss i c.loop-i-test.true in (
      omega (arith, c.loop-i.invariant.0),
      omega (arith, c.loop-i.invariant.1),
      c.loop-i.invariant.2 ∙ range_more ss i c.loop-i-test.true c.if-stride-lt1.false c.if-stride-gt6.false,
    )

pub returns-then-sum-gt0 : goal.returns-then-sum-gt0
returns-then-sum-gt0 c =
    let ss = c.args.strides.now in
    let gone = drop_all c.loop-i.i ss c.loop-i-test.false in
    let all : sum ss ≡ c.loop-i.sum = omega (arith, c.loop-i.invariant.1, ap sum gone) in
    let some : 1 ≤ length ss = (let e = eqb-false (length ss) 0 (sym c.if-is_empty.ensures) in omega arith) in
    one_above c.loop-i.sum c.args.width c.if-sum-gt0.true
    ∙ ap (λ (s : ℕ). eqb s (c.args.width + 1)) (sym all)
    ∙ plan_sum c.args.width ss some c.if-strides-gt32.false (c.loop-i.invariant.2 ∙ ap in_range gone)
