use Rattle.std.proofs.Common.{◌≡◌, ◌+◌, ◌*◌, ◌≤◌, drop}
use Rattle.model.specs.Plans.{sum, in_range}
use Rattle.plan.proofs.is_plan.Given as goal

abbrev pub invariant-loop-i : goal.invariant-loop-i
invariant-loop-i l =
    (l.sum ≤ 6 * l.i)
    × (sum l.strides ≡ l.sum + sum (drop l.i l.strides))
    × (in_range l.strides ≡ in_range (drop l.i l.strides))
