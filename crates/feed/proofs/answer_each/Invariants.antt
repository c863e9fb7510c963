use Rattle.std.specs.Prelude.{◌≡◌, ℕ, [], List, length, take}
use Rattle.model.specs.Calls.{holding}
use Rattle.model.specs.Placements.{opened_placement}
use Rattle.table.specs.Stands.{Stands}
use Rattle.feed.specs.Fed.{Answered, list_after, placement_after}
use Rattle.feed.proofs.answer_each.Given as goal

abbrev pub invariant-loop-i : goal.invariant-loop-i
invariant-loop-i g l =
    record {
      always : g.M.NodeRead.always l.fn.table.memory l.table.memory;
      size : length l.answers ≡ length l.initial.answers;
      answers : (strides : List ℕ) → Stands g.M.NodeRead.nodes 32 l.fn.table (holding strides []) (opened_placement (g.M.NodeRead.nodes l.fn.table.memory).size)
          → Answered (g.M.NodeRead.nodes l.fn.table.memory).size strides l.calls l.initial.answers l.i l.answers;
      stands : (strides : List ℕ) → Stands g.M.NodeRead.nodes 32 l.fn.table (holding strides []) (opened_placement (g.M.NodeRead.nodes l.fn.table.memory).size)
          → Stands g.M.NodeRead.nodes 32 l.table (list_after (g.M.NodeRead.nodes l.fn.table.memory).size strides (take l.i l.calls)) (placement_after (g.M.NodeRead.nodes l.fn.table.memory).size strides (take l.i l.calls));
    }
