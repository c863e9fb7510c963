use Rattle.std.proofs.Common.{arith}
use Rattle.laws.proofs.Plans.{planned}
use Rattle.reference.proofs.required.count_offsets.Goals as goal

pub overflow_add-offset : goal.overflow_add-offset
overflow_add-offset g c =
    let strides = c.strides-stride-items in
    let few = (planned g.A.Address.WIDTH strides.result.now strides.ensures.right).few in
    omega (arith, few, c.loop-stride.invariant)
