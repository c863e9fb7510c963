use Rattle.std.proofs.Common.{◌≡◌, Err, sym, ◌∙◌, subst, rules, arith}
use Rattle.walks.proofs.Lookups.{looks_up_shown}
use Rattle.walks.proofs.Visits.{visits_within}
use Rattle.model.specs.Nodes.{Nodes, walk}
use Rattle.plan.specs.Strides.{strides_of}
use Rattle.descent.specs.Meant.{matched_walk}
use Rattle.descent.specs.Steps.{Last}
use Rattle.descent.proofs.Lookups.{lookup_found, lookup_refused, placed}
use Rattle.descent.proofs.walk.lookup.Goals as goal

pub held-requires : goal.held-requires
held-requires g c =
    let N = g.M.NodeRead.nodes c.args.memory.now in
    let plan = strides_of c.args.plan.now in
    let a = g.A.Address.bits c.args.address in
    let l = g.met.A.Address.long c.args.address in
    let w = g.met.A.Address.wide in
    record { placed = placed N a c.in_ok-last.field-0.last (walk N plan a).found (omega (arith, l, w)) c.in_ok-last.ensures.walks.last }

pub returns-in_err-last-clause-any : goal.returns-in_err-last-clause-any
returns-in_err-last-clause-any g c =
    let f = c.in_err-last.field-0.0 in
    let is : c.from_residual.result ≡ Err f = search rules in
    lookup_refused (g.M.NodeRead.nodes c.args.memory.now) (strides_of c.args.plan.now) (g.A.Address.bits c.args.address) (matched_walk g.A.Address.bits) c.from_residual.result f is c.in_err-last.ensures.walks.0 c.in_err-last.ensures.walks.1

pub returns-in_err-last-clause-shown : goal.returns-in_err-last-clause-shown
returns-in_err-last-clause-shown g c routes at shows =
    returns-in_err-last-clause-any g c
    ∙ looks_up_shown g.A.Address.WIDTH (g.M.NodeRead.nodes c.args.memory.now) (strides_of c.args.plan.now) routes at (g.A.Address.bits c.args.address)
    (g.met.A.Address.long c.args.address) shows

pub returns-clause-any : goal.returns-clause-any
returns-clause-any g c =
    let N = g.M.NodeRead.nodes c.args.memory.now in
    let plan = strides_of c.args.plan.now in
    let a = g.A.Address.bits c.args.address in
    let ends = c.in_ok-last.ensures.walks in
    let same : g.M.NodeRead.nodes c.walk.new.memory ≡ N = g.met.M.NodeRead.laws.still_nodes c.args.memory.now c.walk.new.memory c.walk.ensures.still in
    let last = subst (λ (m : Nodes). Last m a c.in_ok-last.field-0.last (walk N plan a).found) (sym same) ends.last in
    lookup_found N plan a ends (c.in_ok-found.ensures.stands (walk N plan a).found last)

pub returns-clause-shown : goal.returns-clause-shown
returns-clause-shown g c routes at shows =
    returns-clause-any g c
    ∙ looks_up_shown g.A.Address.WIDTH (g.M.NodeRead.nodes c.args.memory.now) (strides_of c.args.plan.now) routes at (g.A.Address.bits c.args.address)
    (g.met.A.Address.long c.args.address) shows

pub returns-clause-within : goal.returns-clause-within
returns-clause-within g c =
    let within = visits_within (g.M.NodeRead.nodes c.args.memory.now) (strides_of c.args.plan.now) (g.A.Address.bits c.args.address) in
    omega (arith, c.in_ok-last.ensures.walks.visits)
