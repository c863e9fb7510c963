use Rattle.std.proofs.Common.{◌+◌, refl, take, subst, sym, arith, take_all}
use Rattle.history.specs.Runs.{Ran, none}
use Rattle.history.proofs.Runs.{ran_more}
use Rattle.history.proofs.course.run.Goals as goal

pub loop-i-init : goal.loop-i-init
loop-i-init g c =
    record {
      ran = record { answers = _; runs = none; is = refl };
      always = g.met.M.NodeRead.laws.always_same c.args.table.now.memory;
    }

pub loop-i-preserved : goal.loop-i-preserved
loop-i-preserved g c =
    let kept = c.loop-i.invariant in
    let size = g.met.M.NodeRead.laws.always_size c.loop-i.table.memory c.perform-answer.new.table.memory c.perform-answer.ensures.always in
    record {
      ran =
          subst (λ xs. Ran g.M.NodeRead.nodes g.A.Address.bits g.A.Address.WIDTH c.args.table.now (take (c.loop-i.i + 1) c.args.calls.now) c.args.answers.now xs c.perform-answer.new.table)
          (sym c.replace.ensures)
          (ran_more g.M.NodeRead.nodes g.A.Address.bits g.A.Address.WIDTH c.args.table.now c.loop-i.table c.perform-answer.new.table c.args.calls.now
          c.args.answers.now c.loop-i.answers c.index-calls-i.result c.perform-answer.result c.loop-i.i c.loop-i-test.true c.if-answers-calls.false c.index-calls-i.is kept.ran
          (record { answer = c.perform-answer.ensures.answer; after = c.perform-answer.ensures.after; size = size }));
      always =
          g.met.M.NodeRead.laws.always_then c.args.table.now.memory c.loop-i.table.memory c.perform-answer.new.table.memory kept.always c.perform-answer.ensures.always;
    }

pub returns-clause-runs : goal.returns-clause-runs
returns-clause-runs g c done =
    subst (λ cs. Ran g.M.NodeRead.nodes g.A.Address.bits g.A.Address.WIDTH c.args.table.now cs c.args.answers.now c.loop-i.answers c.loop-i.table)
    (take_all c.loop-i.i c.args.calls.now (omega (arith, c.loop-i-test.false)))
    c.loop-i.invariant.ran
