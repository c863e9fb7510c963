use Rattle.std.proofs.Common.{arith}
use Rattle.descent.proofs.Paths.{lengthened}
use Rattle.descent.proofs.ascending.longer.Goals as goal

pub returns-clause-bits : goal.returns-clause-bits
returns-clause-bits g c x size is within =
    let long = g.met.A.Address.long c.args.path.address in
    lengthened (g.A.Address.bits c.args.path.address) x c.args.path.length c.from-stride.ensures c.with_group.ensures c.requires.stride (omega arith) size is
