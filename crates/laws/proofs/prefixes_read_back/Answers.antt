use Rattle.laws.proofs.Messages.{prefix_laws}
use Rattle.laws.proofs.prefixes_read_back.Goals as goal

pub returns : goal.returns
returns c = prefix_laws
