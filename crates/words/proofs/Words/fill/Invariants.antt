use Rattle.std.proofs.Common.{◌≡◌}
use Rattle.fields.specs.Filled.{Filled}
use Rattle.words.proofs.Words.fill.Given as goal

abbrev pub invariant-loop-n : goal.invariant-loop-n
invariant-loop-n l =
    record {
      same : l.self.words.ghost_name ≡ l.initial.self.words.ghost_name;
      filled : Filled l.n l.node l.initial.self.words.now l.self.words.now;
    }
