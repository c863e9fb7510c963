use Rattle.std.proofs.Common.{arith}
use Rattle.text.proofs.Sides.{number_low, number_more}
use Rattle.text.proofs.ipv6.read.Side.with.Goals as goal

pub overflow_mul-result : goal.overflow_mul-result
overflow_mul-result c = omega (arith, number_low c.args.self.count c.args.self.number c.requires c.args.self.small)

pub overflow_add-result : goal.overflow_add-result
overflow_add-result c = omega (arith, number_low c.args.self.count c.args.self.number c.requires c.args.self.small)

pub invariant_of-result-clause-small : goal.invariant_of-result-clause-small
invariant_of-result-clause-small c = omega (arith, number_more c.args.self.count c.args.self.number c.from.result c.args.self.small (omega arith))
