use Rattle.text.specs.Addresses.{spread_is}
use Rattle.text.proofs.ipv6.read.spread.Goals as goal

pub returns : goal.returns
returns c = spread_is c.args.left.count c.args.right.count c.args.left.number c.args.right.number c.requires c.args.left.small c.args.right.small
