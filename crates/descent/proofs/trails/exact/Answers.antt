use Rattle.std.proofs.Common.{◌≡◌, Err, ap, ◌∙◌, rules}
use Rattle.model.specs.Outcomes.{and_then, granted, outcome}
use Rattle.plan.specs.Strides.{strides_of}
use Rattle.routes.specs.Meant.{prefix_bits}
use Rattle.walks.proofs.Trails.{exact_shown}
use Rattle.walks.specs.Trails.{Trail}
use Rattle.model.specs.Outcomes.{Outcome}
use Rattle.descent.proofs.Trailed.{looked_by_trail}
use Rattle.descent.proofs.trails.exact.Goals as goal

pub returns-clause-any : goal.returns-clause-any
returns-clause-any g c =
    ap (λ (o : Outcome Trail). and_then o (λ t. granted t.hop)) c.in_ok-trail_to.ensures.any
    ∙ looked_by_trail (g.M.NodeRead.nodes c.args.memory.now) (strides_of c.args.plan.now) (prefix_bits g.A.Address.bits c.args.prefix.prefix)

pub returns-in_err-trail_to-clause-any : goal.returns-in_err-trail_to-clause-any
returns-in_err-trail_to-clause-any g c =
    let f = c.in_err-trail_to.field-0.0 in
    let refused : c.from_residual.result ≡ Err f = search rules in
    ap (outcome (λ hop. hop)) refused
    ∙ ap (λ (o : Outcome Trail). and_then o (λ t. granted t.hop)) c.in_err-trail_to.ensures.any
    ∙ looked_by_trail (g.M.NodeRead.nodes c.args.memory.now) (strides_of c.args.plan.now) (prefix_bits g.A.Address.bits c.args.prefix.prefix)

pub returns-clause-shown : goal.returns-clause-shown
returns-clause-shown g c routes at shows =
    returns-clause-any g c
    ∙ exact_shown g.A.Address.WIDTH (g.M.NodeRead.nodes c.args.memory.now) (strides_of c.args.plan.now) routes at (prefix_bits g.A.Address.bits c.args.prefix.prefix) shows

pub returns-in_err-trail_to-clause-shown : goal.returns-in_err-trail_to-clause-shown
returns-in_err-trail_to-clause-shown g c routes at shows =
    returns-in_err-trail_to-clause-any g c
    ∙ exact_shown g.A.Address.WIDTH (g.M.NodeRead.nodes c.args.memory.now) (strides_of c.args.plan.now) routes at (prefix_bits g.A.Address.bits c.args.prefix.prefix) shows
