use Rattle.laws.proofs.Required.{required_laws}
use Rattle.laws.proofs.required_nodes.Goals as goal

pub returns : goal.returns
returns c = required_laws
