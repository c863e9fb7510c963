use Rattle.laws.proofs.Images.{tree_laws}
use Rattle.laws.proofs.walk_finds_what_is_spelled.Goals as goal

pub returns : goal.returns
returns c = tree_laws
