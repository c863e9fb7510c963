use Rattle.std.proofs.Common.{length}
use Rattle.descent.proofs.ascending.+follow.Given as goal

abbrev pub decreases-follow : goal.decreases-follow
decreases-follow g l = length l.below.now
