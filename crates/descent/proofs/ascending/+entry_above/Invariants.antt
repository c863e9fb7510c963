use Rattle.descent.proofs.ascending.+entry_above.Given as goal

abbrev pub decreases-entry_above : goal.decreases-entry_above
decreases-entry_above g l = l.levels
