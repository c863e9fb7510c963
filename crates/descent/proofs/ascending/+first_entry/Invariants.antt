use Rattle.descent.proofs.ascending.+first_entry.Given as goal

abbrev pub decreases-first_entry : goal.decreases-first_entry
decreases-first_entry g l = l.levels
