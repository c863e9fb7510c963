use Rattle.commands.proofs.drawing.pile_children.Given as goal

abbrev pub invariant-loop-index : goal.invariant-loop-index
invariant-loop-index g l = g.M.NodeRead.still l.fn.memory l.memory
