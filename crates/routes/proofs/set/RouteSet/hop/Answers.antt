use Rattle.std.proofs.Common.{◌≡◌, map, sym, ap, ◌∙◌, subst}
use Rattle.model.specs.Routes.{Routes, find}
use Rattle.routes.specs.Found.{Hit}
use Rattle.routes.specs.Kept.{Kept}
use Rattle.routes.specs.Meant.{meant, prefix_bits}
use Rattle.routes.proofs.Finds.{hop_at}
use Rattle.routes.proofs.set.RouteSet.hop.Goals as goal

pub returns-in-Ok : goal.returns-in-Ok
returns-in-Ok g c =
    let bits = g.A.Address.bits in
    let xs = c.self.inside.routes.items in
    let p = prefix_bits bits c.args.prefix.prefix in
    let shows : map (meant bits) xs ≡ c.args.self.now.routes = ap (λ (k : Kept). k.routes) c.self.view_is in
    let hit = subst (λ (rs : Routes). Hit rs p c.in-Ok.i) (sym shows) c.in-Ok.ensures in
    hop_at bits xs p c.in-Ok.i hit c.index.result.now c.index.ensures ∙ ap (λ (rs : Routes). find rs p) shows
