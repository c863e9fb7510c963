use Rattle.std.proofs.Common.{Ok, arith}
use Rattle.growth.proofs.Returned.{apart, child_there, climbed_first, climbed_kept, climbed_next, climbed_on, climbed_read, climbed_root, count_few, front_there, node_gone, node_kept, node_there, ok_test, way_long}
use Rattle.growth.proofs.Taken.{not_refused}
use Rattle.growth.proofs.climbing.climb.Goals as goal

pub loop-level-init : goal.loop-level-init
loop-level-init g c = (g.met.M.NodeRead.laws.always_same c.args.memory.now, omega arith, λ W plan routes at p starts. climbed_first starts)

pub loop-level-preserved : goal.loop-level-preserved
loop-level-preserved g c = (
  g.met.M.NodeRead.laws.always_then c.args.memory.now c.loop-level.memory c.give_back.new.memory c.loop-level.invariant.0
      (g.met.M.NodeRead.laws.always_then c.loop-level.memory c.is_empty.new.memory c.give_back.new.memory
      (g.met.M.NodeRead.laws.still_always c.loop-level.memory c.is_empty.new.memory c.is_empty.ensures.still) c.give_back.ensures.always),
  omega arith,
  λ W plan routes at p starts.
      let to = climbed_next starts (c.loop-level.invariant.2 W plan routes at p starts) c.loop-level-test.true in
      let parent = c.in-Some-Some.ensures.lookup.3.1 0 in
      let node = c.in-Some-Some.ensures'.lookup.3.1 0 in
      let gone = node_gone starts to parent node (ok_test (c.in_ok-is_empty.ensures.value (node_there starts to parent node))) c.if-not-branch.false in
      let read = climbed_read starts to (g.met.M.NodeRead.laws.still_nodes c.loop-level.memory c.is_empty.new.memory c.is_empty.ensures.still) in
      let done =
      c.in_ok-give_back.ensures.done (front_there starts read parent node gone) (node_there starts read parent node)
      (child_there starts read parent node gone) (apart starts read parent node gone)
      (count_few starts read parent node gone) in
      climbed_on starts read parent node gone (g.M.NodeRead.nodes c.give_back.new.memory) done.1,
)

pub returns-after-loop-level-clause-climbed : goal.returns-after-loop-level-clause-climbed
returns-after-loop-level-clause-climbed g c W plan routes at p starts =
    let all = climbed_root starts (c.loop-level.invariant.2 W plan routes at p starts) (omega arith) in
    (λ i. Ok (record { front = all.0 i; returned = all.1 i }), all.2)

pub returns-then-not-branch-clause-climbed : goal.returns-then-not-branch-clause-climbed
returns-then-not-branch-clause-climbed g c W plan routes at p starts =
    let to = climbed_next starts (c.loop-level.invariant.2 W plan routes at p starts) c.loop-level-test.true in
    let parent = c.in-Some-Some.ensures.lookup.3.1 0 in
    let node = c.in-Some-Some.ensures'.lookup.3.1 0 in
    let needed = node_kept starts to parent node (ok_test (c.in_ok-is_empty.ensures.value (node_there starts to parent node))) c.if-not-branch.true in
    let read = climbed_read starts to (g.met.M.NodeRead.laws.still_nodes c.loop-level.memory c.is_empty.new.memory c.is_empty.ensures.still) in
    let all = climbed_kept starts read needed in
    (λ i. Ok (record { front = all.0 i; returned = all.1 i }), all.2)

pub returns-in_default-clause-climbed : goal.returns-in_default-clause-climbed
returns-in_default-clause-climbed g c W plan routes at p starts =
    let short = c.in_default.ensures'.lookup.3 in
    let some = c.loop-level-test.true in
    let long = way_long starts (c.loop-level.invariant.2 W plan routes at p starts) in
    absurd (omega arith)

pub returns-in_default-2-clause-climbed : goal.returns-in_default-2-clause-climbed
returns-in_default-2-clause-climbed g c W plan routes at p starts =
    let short = c.in_default.ensures.lookup.3 in
    let some = c.loop-level-test.true in
    let long = way_long starts (c.loop-level.invariant.2 W plan routes at p starts) in
    absurd (omega arith)

pub returns-in_err-is_empty-clause-climbed : goal.returns-in_err-is_empty-clause-climbed
returns-in_err-is_empty-clause-climbed g c W plan routes at p starts =
    let to = climbed_next starts (c.loop-level.invariant.2 W plan routes at p starts) c.loop-level-test.true in
    let parent = c.in-Some-Some.ensures.lookup.3.1 0 in
    let node = c.in-Some-Some.ensures'.lookup.3.1 0 in
    absurd (not_refused (c.in_err-is_empty.ensures.value (node_there starts to parent node)))

pub returns-in_err-give_back-clause-always : goal.returns-in_err-give_back-clause-always
returns-in_err-give_back-clause-always g c =
    g.met.M.NodeRead.laws.always_then c.args.memory.now c.loop-level.memory c.give_back.new.memory c.loop-level.invariant.0
    (g.met.M.NodeRead.laws.always_then c.loop-level.memory c.is_empty.new.memory c.give_back.new.memory
    (g.met.M.NodeRead.laws.still_always c.loop-level.memory c.is_empty.new.memory c.is_empty.ensures.still) c.give_back.ensures.always)

pub returns-in_err-give_back-clause-climbed : goal.returns-in_err-give_back-clause-climbed
returns-in_err-give_back-clause-climbed g c W plan routes at p starts =
    let to = climbed_next starts (c.loop-level.invariant.2 W plan routes at p starts) c.loop-level-test.true in
    let parent = c.in-Some-Some.ensures.lookup.3.1 0 in
    let node = c.in-Some-Some.ensures'.lookup.3.1 0 in
    let gone = node_gone starts to parent node (ok_test (c.in_ok-is_empty.ensures.value (node_there starts to parent node))) c.if-not-branch.false in
    let read = climbed_read starts to (g.met.M.NodeRead.laws.still_nodes c.loop-level.memory c.is_empty.new.memory c.is_empty.ensures.still) in
    let done =
    c.in_err-give_back.ensures.done (front_there starts read parent node gone) (node_there starts read parent node)
    (child_there starts read parent node gone) (apart starts read parent node gone)
    (count_few starts read parent node gone) in
    absurd (not_refused done.0)
