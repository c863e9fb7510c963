use Rattle.std.proofs.Common.{arith}
use Rattle.messages.proofs.Puts.{all_put, byte_put, length_put}
use Rattle.messages.proofs.writing.put_prefix.Goals as goal

pub loop-i-init : goal.loop-i-init
loop-i-init g c =
    length_put (g.A.Address.bits c.args.prefix.now.prefix.address) c.args.prefix.now.prefix.length c.args.prefix.now.sound c.args.place c.args.output.now
    (omega (arith, c.requires))

pub loop-i-preserved : goal.loop-i-preserved
loop-i-preserved g c =
    byte_put (g.A.Address.bits c.args.prefix.now.prefix.address) c.args.prefix.now.prefix.length c.args.prefix.now.sound c.args.place c.args.output.now
    c.loop-i.i c.byte.result c.loop-i.output c.loop-i.invariant
    (omega (arith, c.loop-i-test.true))
    (omega (arith, c.requires))
    c.byte.ensures

pub returns : goal.returns
returns g c =
    all_put (g.A.Address.bits c.args.prefix.now.prefix.address) c.args.prefix.now.prefix.length c.args.prefix.now.sound c.args.place c.args.output.now
    c.loop-i.i c.loop-i.output c.loop-i.invariant
    (omega (arith, c.loop-i-test.false, c.loop-i.auto.i-end))
