use Rattle.std.proofs.Common.{◌≡◌, ℕ, drop, sym, ap, ◌∙◌}
use Rattle.std.specs.Option.{option_map}
use Rattle.model.specs.Routes.{Routes, smallest, above}
use Rattle.routes.specs.Meant.{meant, prefix_bits}
use Rattle.routes.proofs.Finds.{first_from}
use Rattle.routes.proofs.set.RouteSet.above.Goals as goal
use Rattle.routes.proofs.set.RouteSet.above.Goals.{in-Ok, in-Err}

pub returns : goal.returns
returns g c =
    let bits = g.A.Address.bits in
    let rs = c.args.self.now.routes in
    let from = c.match-place.from in
    let follows : smallest (drop from rs) ≡ above rs (prefix_bits bits c.args.prefix.prefix) =
    elim c.match-place.branch [
      | in-Ok w ↦ ap (λ (k : ℕ). smallest (drop k rs)) w.from-is ∙ sym w.in-Ok.ensures.follows
      | in-Err w ↦ ap (λ (k : ℕ). smallest (drop k rs)) w.from-is ∙ sym w.in-Err.ensures.follows
    ] in
    ap (option_map (meant bits)) c.copied.ensures
    ∙ first_from bits c.as_slice-routes.result.now from c.get.result (c.get.ensures.lookup.0, c.get.ensures.lookup.1)
    ∙ ap (λ (qs : Routes). smallest (drop from qs)) c.as_slice-routes.ensures.routes
    ∙ follows
