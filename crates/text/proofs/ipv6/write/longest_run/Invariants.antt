use Rattle.std.proofs.Common.{◌-◌, ◌≤◌, length}
use Rattle.text.specs.Runs.{Seen}
use Rattle.text.proofs.ipv6.write.longest_run.Given as goal

abbrev pub invariant-loop-start : goal.invariant-loop-start
invariant-loop-start l =
    (l.start ≤ l.end) × (l.end ≤ length l.all) × (l.best.start ≤ l.best.end)
    × Seen l.all l.start (l.end - l.start) l.best.start (l.best.end - l.best.start)
