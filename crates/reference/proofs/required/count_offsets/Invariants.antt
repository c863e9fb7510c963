use Rattle.std.proofs.Common.{◌≡◌, ℕ, ◌+◌, ◌*◌, ◌≤◌, Bool, drop}
use Rattle.laws.specs.Counts.{count}
use Rattle.model.specs.Plans.{offsets, offsets_from}
use Rattle.reference.proofs.required.count_offsets.Given as goal

abbrev pub invariant-loop-stride : goal.invariant-loop-stride
invariant-loop-stride g l =
    (l.offset ≤ 255 * l.stride-index)
    × (l.nodes ≤ l.stride-index)
    × ((passes : ℕ → Bool) → ((o : ℕ) (b : Bool) → goal.F-post g l.test o b → b ≡ passes o)
    → count passes (offsets l.stride-items) ≡ l.nodes + count passes (offsets_from l.offset (drop l.stride-index l.stride-items)))
