use Rattle.std.proofs.Common.{rules, ◌≡◌, length, arith}
use Rattle.records.proofs.Written.{child_written}
use Rattle.records.proofs.RecordsNodeWrite.set_child.Goals as goal

pub returns-clause-after : goal.returns-clause-after
returns-clause-after c =
    let r = c.index_mut.result.now in
    let xs = c.args.self.now.records.items in
    let long : length r.children ≡ 64 = search rules in
    rw c.from.ensures
    (child_written xs c.args.node c.args.index c.args.child r c.index_mut.ensures.value (omega (arith, c.args.self.now.counted)) c.if-index-ge-MOST_CHILDREN.false (omega (arith, c.args.self.now.counted)) long)
