use Rattle.std.proofs.Common.{Some, ap, ◌∙◌, sym, subst}
use Rattle.std.proofs.lemmas.Bool.{both_ways}
use Rattle.nodes.specs.Fields.{is_hop}
use Rattle.nodes.proofs.Readings.{granted, refused}
use Rattle.descent.specs.Steps.{Last}
use Rattle.descent.proofs.Lookups.{is_hop_there, route_there, some_stands}
use Rattle.descent.proofs.walk.held.Goals as goal

pub returns-clause-stands : goal.returns-clause-stands
returns-clause-stands g c found last =
    let N = g.M.NodeRead.nodes c.args.memory.now in
    let a = g.A.Address.bits c.args.address in
    let m = c.in-Some.last in
    let some = some_stands N a m found (subst (λ l. Last N a l found) c.in-Some.is last) in
    let position = c.ilog2-position.result in
    let hop = granted (is_hop N m.node position) (N.hop m.node position) c.in_ok-hop.hop c.in_ok-hop.ensures.answer in
    ap Some (route_there some.2 position c.ilog2-position.ensures.power_le c.ilog2-position.ensures.next_power_gt c.ilog2.result c.in_ok-hop.hop _ c.ilog2.ensures.power_le c.ilog2.ensures.next_power_gt hop.1 c.of_first_bits-prefix.ensures.bits)
    ∙ sym some.1

-- the hop of a match is never refused
pub returns-in_err-hop-clause-stands : goal.returns-in_err-hop-clause-stands
returns-in_err-hop-clause-stands g c found last =
    let N = g.M.NodeRead.nodes c.args.memory.now in
    let a = g.A.Address.bits c.args.address in
    let m = c.in-Some.last in
    let some = some_stands N a m found (subst (λ l. Last N a l found) c.in-Some.is last) in
    let position = c.ilog2-position.result in
    let none = refused (is_hop N m.node position) (N.hop m.node position) c.in_err-hop.field-0.0 c.in_err-hop.ensures.answer in
    absurd (both_ways (is_hop N m.node position) none.0 (is_hop_there some.2 position c.ilog2-position.ensures.power_le c.ilog2-position.ensures.next_power_gt))
