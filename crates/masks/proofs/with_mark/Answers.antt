use Rattle.masks.proofs.Marked.{or_marks}
use Rattle.masks.proofs.with_mark.Goals as goal

pub returns-then-position-lt64-clause-marks : goal.returns-then-position-lt64-clause-marks
returns-then-position-lt64-clause-marks c low = or_marks c.args.bitmap c.args.position low
