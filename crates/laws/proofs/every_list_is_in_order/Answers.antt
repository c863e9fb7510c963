use Rattle.laws.proofs.Histories.{history_laws}
use Rattle.laws.proofs.every_list_is_in_order.Goals as goal

pub returns : goal.returns
returns c = history_laws
