use Rattle.std.proofs.Common.{subst, sym, ap, ◌∙◌, arith}
use Rattle.model.specs.Required.{required}
use Rattle.laws.proofs.Required.{none_required}
use Rattle.plan.specs.Strides.{strides_of}
use Rattle.routes.specs.InOrder.{InOrder}
use Rattle.reference.proofs.RouteList.open.Goals as goal

pub invariant_of-self : goal.invariant_of-self
invariant_of-self g c =
    let plan = strides_of c.in_ok-plan.plan in record {
      ordered = subst (InOrder g.A.Address.WIDTH) (sym c.clear.ensures.routes) (tt, tt);
      enough = omega arith;
      counted = sym (ap (required plan) c.clear.ensures.routes ∙ none_required plan);
    }
