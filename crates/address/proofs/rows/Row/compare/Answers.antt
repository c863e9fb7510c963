use Rattle.std.proofs.lemmas.Cmp.{ranked}
use Rattle.bits.proofs.Orders.{order_row}
use Rattle.address.proofs.rows.Row.compare.Goals as goal

pub returns : goal.returns
returns g c =
    let a = c.args.self.now in
    let b = c.args.other.now in
    order_row g.row.N a.number b.number c.cmp.result a.small b.small (ranked _ _ c.cmp.result c.cmp.ensures)
