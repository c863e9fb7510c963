use Rattle.std.proofs.Common.{◌∙◌, ap}
use Rattle.laws.specs.Counts.{shared}
use Rattle.model.specs.Routes.{Routes}
use Rattle.reference.proofs.Shared.{any_shares}
use Rattle.reference.proofs.required.shares.Goals as goal

pub returns : goal.returns
returns g c =
    let a = g.A.Address.bits c.args.address.now in
    let o = c.args.offset in
    c.passed_by_one.ensures ∙ any_shares a o c.as_slice.result.now ∙ ap (λ (rs : Routes). shared rs a o) c.as_slice.ensures.routes
