use Rattle.std.proofs.Common.{sym, ap, ◌∙◌, subst}
use Rattle.std.specs.Option.{option_map}
use Rattle.model.specs.Routes.{Routes, Ascending, longest}
use Rattle.routes.specs.Meant.{meant}
use Rattle.routes.proofs.Longest.{longest_is}
use Rattle.routes.proofs.set.RouteSet.longest_match.Goals as goal

pub returns : goal.returns
returns g c =
    let bits = g.A.Address.bits in
    let a = bits c.args.address.now in
    let shows = c.as_slice.ensures.routes in
    ap (option_map (meant bits)) c.copied.ensures
    ∙ longest_is bits c.as_slice.result.now a (subst Ascending (sym shows) c.as_slice.ensures.ordered.0) c.last_match.result c.last_match.ensures
    ∙ ap (λ (rs : Routes). longest rs a) shows
