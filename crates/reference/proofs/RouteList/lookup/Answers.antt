use Rattle.std.proofs.Common.{◌≡◌, ℕ, true, refl, sym, ◌∙◌, subst, ap₂}
use Rattle.plan.specs.Strides.{strides_of}
use Rattle.laws.proofs.Counts.{path_counted}
use Rattle.model.specs.Outcomes.{granted}
use Rattle.model.specs.Plans.{plan_ok}
use Rattle.model.specs.Calls.{holding, lookup, matched, done}
use Rattle.model.specs.Required.{path_count}
use Rattle.model.specs.Routes.{longest}
use Rattle.reference.proofs.Nodes.{answered}
use Rattle.reference.proofs.RouteList.lookup.Goals as goal

pub returns : goal.returns
returns g c =
    let W = g.A.Address.WIDTH in
    let t = c.args.self.now in
    let rs = t.routes.routes in
    let a = g.A.Address.bits c.args.address in
    let plan = strides_of c.in-Some.plan in
    let ok = subst (λ (w : ℕ). plan_ok w plan ≡ true) (sym (g.met.A.Address.long c.args.address)) c.in-Some.plan.right in
    let path : c.path_nodes-path.result ≡ path_count plan rs a =
    c.path_nodes-path.ensures ∙ sym (path_counted a plan rs ok) in
    ap₂ (λ r n. granted (matched r n)) c.longest_match-route.ensures path
    ∙ sym (answered W t.plan c.in-Some.plan c.in-Some.is t.nodes rs (lookup a) (done (matched (longest rs a) (path_count plan rs a)) (holding plan rs)) refl)
