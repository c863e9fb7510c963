use Rattle.commands.proofs.drawing.draw_tree.Given as goal

abbrev pub invariant-loop : goal.invariant-loop
invariant-loop g l = g.M.NodeRead.still l.fn.memory l.memory
