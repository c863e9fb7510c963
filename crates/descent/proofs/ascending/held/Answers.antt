use Rattle.std.proofs.Common.{arith}
use Rattle.descent.proofs.Paths.{placed}
use Rattle.descent.proofs.ascending.held.Goals as goal

pub returns : goal.returns
returns g c = record {
  held = λ x is within few.
      let long = g.met.A.Address.long c.args.path.address in
      placed (g.A.Address.bits c.args.path.address) (g.A.Address.bits c.with_group-address.result) x _ c.args.path.length c.args.position
      c.ilog2-rest.result c.args.hop is c.ilog2-rest.ensures.power_le c.ilog2-rest.ensures.next_power_gt few (omega arith)
      c.with_group-address.ensures c.of_first_bits-prefix.ensures.bits;
}
