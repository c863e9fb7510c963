use Rattle.laws.proofs.Updates.{block_laws}
use Rattle.laws.proofs.blocks_read_back.Goals as goal

pub returns : goal.returns
returns c = block_laws
