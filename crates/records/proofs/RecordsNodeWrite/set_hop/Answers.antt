use Rattle.std.proofs.Common.{rules, ◌≡◌, length, arith}
use Rattle.records.proofs.Written.{hop_written}
use Rattle.records.proofs.RecordsNodeWrite.set_hop.Goals as goal

pub returns-clause-after : goal.returns-clause-after
returns-clause-after c =
    let r = c.index_mut.result.now in
    let long : length r.hops ≡ 63 = search rules in
    rw c.from.ensures
    (hop_written c.args.self.now.records.items c.args.node c.args.position c.args.hop r c.index_mut.ensures.value (omega (arith, c.args.self.now.counted)) c.if-position-lt1.false (let last = c.if-position-gt-LAST_POSITION.false in omega arith) c.if-hop-gt-LAST_HOP.false long)
