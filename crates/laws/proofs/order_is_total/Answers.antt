use Rattle.laws.proofs.Orders.{order_laws}
use Rattle.laws.proofs.order_is_total.Goals as goal

pub returns : goal.returns
returns c = order_laws
