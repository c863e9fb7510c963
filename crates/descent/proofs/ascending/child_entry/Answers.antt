use Rattle.descent.proofs.Rows.{child_small}
use Rattle.descent.proofs.Entries.{child_granted}
use Rattle.descent.proofs.ascending.child_entry.Goals as goal

-- a child of a node that was read is never refused
pub returns-in_err-child-clause-child : goal.returns-in_err-child-clause-child
returns-in_err-child-clause-child g c below bs reads at =
    absurd (child_granted reads _ c.in_err-child.field-0.0 (child_small c.requires.row) c.in_err-child.ensures.answer)
