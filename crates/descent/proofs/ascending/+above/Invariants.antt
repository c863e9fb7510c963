use Rattle.std.proofs.Common.{length}
use Rattle.descent.proofs.ascending.+above.Given as goal

abbrev pub decreases-above : goal.decreases-above
decreases-above g l = length l.strides.now
