use Rattle.laws.proofs.Messages.{follow_laws}
use Rattle.laws.proofs.follow_reads_all.Goals as goal

pub returns : goal.returns
returns c = follow_laws
