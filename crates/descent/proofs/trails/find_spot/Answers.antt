use Rattle.std.proofs.Common.{◌≡◌, ◌∙◌, take, drop, arith}
use Rattle.std.proofs.lemmas.List.{length-take-le}
use Rattle.bits.specs.Rows.{number}
use Rattle.laws.proofs.Plans.{planned}
use Rattle.descent.specs.Passing.{LiesBehind}
use Rattle.descent.proofs.Placing.{group_of, placed_there, never_past, placing, placing_on, stride_high}
use Rattle.descent.proofs.trails.find_spot.Goals as goal

pub loop-stride-init : goal.loop-stride-init
loop-stride-init g c =
    let p = planned g.A.Address.WIDTH c.strides-stride-items.result.now c.strides-stride-items.ensures.right in
    rw c.clear.ensures (placing c.strides-stride-items.result.now (take c.args.prefix.prefix.length (g.A.Address.bits c.args.prefix.prefix.address)) p.range)

pub loop-stride-preserved : goal.loop-stride-preserved
loop-stride-preserved g c =
    let bits = g.A.Address.bits c.args.prefix.prefix.address in
    let len = c.args.prefix.prefix.length in
    let placing = c.loop-stride.invariant in
    let l = length-take-le len bits c.args.prefix.sound.0 in
    let r = placing.reaches in
    let longer = c.if-length-offset.false in
    let high = stride_high placing c.loop-stride-test.true c.from-stride.result c.from-stride.ensures in
    let index : c.group.result ≡ number (take c.from-stride.result (drop c.loop-stride.offset (take len bits))) =
    c.group.ensures ∙ group_of bits len c.loop-stride.offset c.from-stride.result high (omega arith) c.args.prefix.sound.0 in
    rw c.push.ensures.items (placing_on placing c.loop-stride-test.true c.from-stride.result c.from-stride.ensures (omega arith) c.group.result index)

pub push-requires : goal.push-requires
push-requires g c =
    let p = planned g.A.Address.WIDTH c.strides-stride-items.result.now c.strides-stride-items.ensures.right in
    let each = c.loop-stride.invariant.each in
    (omega arith, omega (arith, p.few))

pub returns-after-loop-stride-clause-offset : goal.returns-after-loop-stride-clause-offset
returns-after-loop-stride-clause-offset g c =
    let l = g.met.A.Address.long c.args.prefix.prefix.address in
    let t = length-take-le c.args.prefix.prefix.length (g.A.Address.bits c.args.prefix.prefix.address) c.args.prefix.sound.0 in
    let p = planned g.A.Address.WIDTH c.strides-stride-items.result.now c.strides-stride-items.ensures.right in
    absurd (never_past c.loop-stride.invariant c.loop-stride-test.false (omega (arith, p.total, c.args.prefix.sound.0)))

pub returns-after-loop-stride-clause-few : goal.returns-after-loop-stride-clause-few
returns-after-loop-stride-clause-few g c =
    let l = g.met.A.Address.long c.args.prefix.prefix.address in
    let t = length-take-le c.args.prefix.prefix.length (g.A.Address.bits c.args.prefix.prefix.address) c.args.prefix.sound.0 in
    let p = planned g.A.Address.WIDTH c.strides-stride-items.result.now c.strides-stride-items.ensures.right in
    absurd (never_past c.loop-stride.invariant c.loop-stride-test.false (omega (arith, p.total, c.args.prefix.sound.0)))

pub returns-then-length-offset-clause-offset : goal.returns-then-length-offset-clause-offset
returns-then-length-offset-clause-offset g c =
    let bits = g.A.Address.bits c.args.prefix.prefix.address in
    let len = c.args.prefix.prefix.length in
    let t = length-take-le len bits c.args.prefix.sound.0 in
    let there : LiesBehind c.strides-stride-items.result.now (take len bits) c.loop-stride.offset =
    placed_there c.loop-stride.invariant c.loop-stride-test.true c.from-stride.result c.from-stride.ensures (omega (arith, c.if-length-offset.true)) in
    rw (← c.strides-stride-items.ensures.value) there

pub returns-then-length-offset-clause-few : goal.returns-then-length-offset-clause-few
returns-then-length-offset-clause-few g c =
    let p = planned g.A.Address.WIDTH c.strides-stride-items.result.now c.strides-stride-items.ensures.right in
    omega (arith, p.few, c.loop-stride.invariant.each, c.loop-stride-test.true)
