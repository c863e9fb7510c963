use Rattle.plan.specs.Strides.{strides_of}
use Rattle.linecard.specs.Found.{Answers}
use Rattle.linecard.proofs.look_up_each.Given as goal

abbrev pub invariant-loop-i : goal.invariant-loop-i
invariant-loop-i g l =
    record {
      still : g.M.NodeRead.still l.fn.memory l.memory;
      answers : Answers (g.M.NodeRead.nodes l.fn.memory) (strides_of l.plan) l.addresses l.initial.found l.i l.found;
    }
