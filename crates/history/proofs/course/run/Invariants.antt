use Rattle.std.proofs.Common.{take}
use Rattle.history.specs.Runs.{Ran}
use Rattle.history.proofs.course.run.Given as goal

-- the calls so far
abbrev pub invariant-loop-i : goal.invariant-loop-i
invariant-loop-i g l =
    record {
      ran : Ran g.M.NodeRead.nodes g.A.Address.bits g.A.Address.WIDTH l.fn.table (take l.i l.fn.calls) l.fn.answers l.answers l.table;
      always : g.M.NodeRead.always l.fn.table.memory l.table.memory;
    }
