use Rattle.laws.proofs.Levels.{place_laws}
use Rattle.laws.proofs.prefix_lies_in_one_place.Goals as goal

pub returns : goal.returns
returns c = place_laws
