use Rattle.std.proofs.Common.{ℕ, get_or, refl, subst, arith}
use Rattle.growth.proofs.Taken.{TakenTo, apart, child_there, count_there, front_there, not_refused, ok_alone, taken_all, taken_first, taken_on}
use Rattle.growth.proofs.attaching.attach.Goals as goal

pub loop-index-init : goal.loop-index-init
loop-index-init g c = (
  g.met.M.NodeRead.laws.always_same c.args.memory.now,
  λ W plan routes at p k starts.
      subst (λ (m : ℕ). TakenTo (g.M.NodeRead.nodes c.args.memory.now).size plan routes at p m (g.M.NodeRead.nodes c.args.memory.now) c.args.front c.args.node)
      (omega arith) (taken_first starts),
)

pub loop-index-preserved : goal.loop-index-preserved
loop-index-preserved g c = (
  g.met.M.NodeRead.laws.always_then c.args.memory.now c.loop-index.memory c.take.new.memory c.loop-index.invariant.0 c.take.ensures.always,
  λ W plan routes at p k starts.
      let to = c.loop-index.invariant.1 W plan routes at p k starts in
      let inside = c.loop-index-test.true in
      let index = get_or c.args.missing.now c.loop-index.index-index 0 in
      let done =
      c.in_ok-link.ensures.done (front_there starts to inside index refl) (child_there starts to inside index refl) (apart starts to inside index refl)
      (count_there starts to inside index refl) in
      taken_on starts to inside index refl c.in_ok-link.link (g.M.NodeRead.nodes c.take.new.memory) (ok_alone c.in_ok-link.link _ done.0) done.1,
)

pub returns-clause-attached : goal.returns-clause-attached
returns-clause-attached g c W plan routes at p k starts =
    let all = taken_all starts (c.loop-index.invariant.1 W plan routes at p k starts) c.loop-index-test.false c.loop-index.auto.index-index-end in
    (rw (all.0, all.1), all.2)

pub returns-in_err-link-clause-attached : goal.returns-in_err-link-clause-attached
returns-in_err-link-clause-attached g c W plan routes at p k starts =
    let to = c.loop-index.invariant.1 W plan routes at p k starts in
    let inside = c.loop-index-test.true in
    let index = get_or c.args.missing.now c.loop-index.index-index 0 in
    let done =
    c.in_err-link.ensures.done (front_there starts to inside index refl) (child_there starts to inside index refl) (apart starts to inside index refl)
    (count_there starts to inside index refl) in
    absurd (not_refused done.0)
