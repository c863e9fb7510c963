use Rattle.laws.proofs.Insertions.{insertion_laws}
use Rattle.laws.proofs.any_order_of_inserts.Goals as goal

pub returns : goal.returns
returns c = insertion_laws
