use Rattle.std.proofs.Common.{arith}
use Rattle.text.specs.Words.{side}
use Rattle.text.specs.Addresses.{whole_eight, whole_few}
use Rattle.text.proofs.ipv6.read.read_whole.Goals as goal

pub returns-then-all-eq8 : goal.returns-then-all-eq8
returns-then-all-eq8 c =
    let all = c.in_ok-all.all in
    whole_eight (side c.args.text.now) all.count all.number c.from.result.high c.from.result.low c.in_ok-all.ensures.0 c.if-all-eq8.true c.from.ensures

pub returns-else-all-eq8 : goal.returns-else-all-eq8
returns-else-all-eq8 c =
    let all = c.in_ok-all.all in
    (omega arith, whole_few (side c.args.text.now) all.count all.number c.in_ok-all.ensures.0 c.if-all-eq8.false)
