use Rattle.std.proofs.Common.{Ok, ap}
use Rattle.std.proofs.lemmas.Bool.{false≢true}
use Rattle.growth.specs.declared.attaching.Attached.{Attached}
use Rattle.growth.proofs.Entered.{entered, marks_clean, marks_there}
use Rattle.growth.proofs.Taken.{not_refused, ok_alone}
use Rattle.growth.proofs.entering.enter.Goals as goal

pub returns-clause-entered : goal.returns-clause-entered
returns-clause-entered g c W plan routes at p k starts place small =
    let done = c.in_ok-node.ensures.attached W plan routes at p k starts in
    let end = ok_alone c.in_ok-node.field-0 _ done.0 in
    let at_node = ap (λ (x : Attached). x.node) end in
    let now = g.M.NodeRead.nodes c.attach.new.memory in
    let n = c.in_ok-node.field-0.node in
    let j = c.args.position in
    let made =
    c.in_ok-mark.ensures.done (marks_there starts c.args.hop small now done.1 n j at_node place) (marks_clean starts c.args.hop small now done.1 n) small in
    (ap (λ (x : Attached). Ok x.front) end, entered starts c.args.hop small now done.1 n j at_node place (g.M.NodeRead.nodes c.mark.new.memory) made.1)

pub returns-in_err-node-clause-entered : goal.returns-in_err-node-clause-entered
returns-in_err-node-clause-entered g c W plan routes at p k starts place small =
    absurd (not_refused (c.in_err-node.ensures.attached W plan routes at p k starts).0)

pub returns-in_err-mark-clause-entered : goal.returns-in_err-mark-clause-entered
returns-in_err-mark-clause-entered g c W plan routes at p k starts place small =
    let done = c.in_ok-node.ensures.attached W plan routes at p k starts in
    let end = ok_alone c.in_ok-node.field-0 _ done.0 in
    let at_node = ap (λ (x : Attached). x.node) end in
    let now = g.M.NodeRead.nodes c.attach.new.memory in
    let n = c.in_ok-node.field-0.node in
    let j = c.args.position in
    let made =
    c.in_err-mark.ensures.done (marks_there starts c.args.hop small now done.1 n j at_node place) (marks_clean starts c.args.hop small now done.1 n) small in
    absurd (false≢true made.0)
