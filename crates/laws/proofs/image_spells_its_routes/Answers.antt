use Rattle.laws.proofs.Images.{image_laws}
use Rattle.laws.proofs.image_spells_its_routes.Goals as goal

pub returns : goal.returns
returns c = image_laws
