use Rattle.std.proofs.Common.{rules}
use Rattle.feed.proofs.Feeds.{route_fits, route_is}
use Rattle.feed.proofs.told_route.Goals as goal

pub returns-clause-value : goal.returns-clause-value
returns-clause-value c =
    let p = c.args.route.prefix in
    route_is c.from.result c.args.route.hop c.from-2.result p.prefix.length p.prefix.address.bits c.from.ensures c.from-2.ensures p.sound

pub returns-clause-small : goal.returns-clause-small
returns-clause-small c =
    let p = c.args.route.prefix in
    route_fits c.from.result c.args.route.hop c.from-2.result p.prefix.length p.prefix.address.bits c.from.ensures (search rules) c.from-2.ensures p.sound
