use Rattle.std.proofs.Common.{ap, sym, ◌∙◌}
use Rattle.std.specs.Option.{option_map}
use Rattle.laws.proofs.Readings.{granted_same}
use Rattle.plan.specs.Strides.{strides_of}
use Rattle.table.proofs.Deletions.{found}
use Rattle.table.proofs.Writings.{answers_narrow, answers_whole, shown_still}
use Rattle.table.proofs.Table.write.Goals as goal

pub returns-then-not-branch-clause-answer : goal.returns-then-not-branch-clause-answer
returns-then-not-branch-clause-answer g c plain at stands =
    let x = found (ap (option_map strides_of) c.in-Some.is) plain at stands in
    let has = granted_same _ _ (c.in_ok-has_room.ensures.room x.routes at x.shows x.counted) in
    answers_narrow c.args.number (strides_of c.in-Some.plan) x.routes c.args.output.now x.is g.A.Address.WIDTH (g.M.NodeRead.nodes c.args.self.now.memory).size
    c.if-number-gt-LAST_NUMBER.false (sym has ∙ c.if-not-branch.true) c.of_table-then-not-branch.result c.of_table-then-not-branch.ensures

pub returns-clause-answer : goal.returns-clause-answer
returns-clause-answer g c plain at stands =
    let x = found (ap (option_map strides_of) c.in-Some.is) plain at stands in
    let same = g.met.M.NodeRead.laws.still_nodes c.args.self.now.memory c.has_room.new.memory c.has_room.ensures.still in
    let has = granted_same _ _ (c.in_ok-has_room.ensures.room x.routes at x.shows x.counted) in
    answers_whole c.args.number (strides_of c.in-Some.plan) x.routes c.args.output.now x.is g.A.Address.WIDTH (g.M.NodeRead.nodes c.args.self.now.memory).size
    c.if-number-gt-LAST_NUMBER.false (sym has ∙ c.if-not-branch.false) x.counted c.in_ok-place.place c.put_head.new.output c.in_ok-place.ensures.answer
    c.put_routes.new.output c.put_routes.result
    (c.put_routes.ensures.put x.routes at (shown_still same x.shows) x.counted)
