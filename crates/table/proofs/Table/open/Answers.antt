use Rattle.std.proofs.Common.{◌≡◌, cond, ltb, Ok, ap, ◌∙◌, subst, true, arith}
use Rattle.model.specs.Plans.{plan_ok}
use Rattle.model.specs.Nodes.{Nodes}
use Rattle.plan.specs.Strides.{strides_of}
use Rattle.images.specs.Steps.{chained}
use Rattle.growth.proofs.Taken.{ok_alone}
use Rattle.table.proofs.Openings.{opens, opens_to}
use Rattle.table.proofs.Table.open.Goals as goal

pub returns-clause-opened : goal.returns-clause-opened
returns-clause-opened g c =
    let W = g.A.Address.WIDTH in
    let m = g.M.NodeRead.nodes c.args.self.now.memory in
    let N = m.size in
    let same : g.M.NodeRead.nodes c.size-size.new.self ≡ m = g.met.M.NodeRead.laws.still_nodes c.args.self.now.memory c.size-size.new.self c.size-size.ensures.still in
    let value : strides_of c.in_ok-plan.plan ≡ c.args.strides.now = c.in_ok-plan.ensures.value in
    let front : c.in_ok-front.front ≡ cond (ltb 1 N) 1 0 =
    ok_alone c.in_ok-front.front (cond (ltb 1 N) 1 0) (c.in_ok-front.ensures.done ∙ ap (λ (x : Nodes). Ok (cond (ltb 1 x.size) 1 0)) same) in
    rw (← value) (opens W N (g.M.NodeRead.nodes c.open.new.memory) (strides_of c.in_ok-plan.plan) c.in_ok-front.front c.in_ok-plan.plan.right (omega arith)
    (c.open.ensures.opened ∙ ap (λ (x : Nodes). chained x.size) same) front)

pub returns-clause-after : goal.returns-clause-after
returns-clause-after g c plain at s =
    let W = g.A.Address.WIDTH in
    let N = (g.M.NodeRead.nodes c.args.self.now.memory).size in
    let value : strides_of c.in_ok-plan.plan ≡ c.args.strides.now = c.in_ok-plan.ensures.value in
    let right : plan_ok W c.args.strides.now ≡ true = subst (λ l. plan_ok W l ≡ true) value c.in_ok-plan.plan.right in
    let to = opens_to W N plain c.args.strides.now at right (omega arith) in
    rw (to.0, to.1) (returns-clause-opened g c)
