use Rattle.commands.proofs.drawing.draw_branch.Given as goal

abbrev pub invariant-loop-position : goal.invariant-loop-position
invariant-loop-position g l = g.M.NodeRead.still l.fn.memory l.memory
