use Rattle.laws.proofs.Messages.{load_law}
use Rattle.laws.proofs.load_is_open_and_insert.Goals as goal

pub returns : goal.returns
returns c = load_law
