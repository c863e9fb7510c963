use Rattle.laws.proofs.Placements.{placement_laws}
use Rattle.laws.proofs.placements_stay_sound.Goals as goal

pub returns : goal.returns
returns c = placement_laws
