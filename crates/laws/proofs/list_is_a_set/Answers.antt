use Rattle.laws.proofs.Routes.{route_laws}
use Rattle.laws.proofs.list_is_a_set.Goals as goal

pub returns : goal.returns
returns c = route_laws
