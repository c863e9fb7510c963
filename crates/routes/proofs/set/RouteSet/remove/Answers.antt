use Rattle.std.proofs.Common.{◌≡◌, map, sym, ap, ◌∙◌, subst}
use Rattle.model.specs.Routes.{Routes, Ascending, find, without}
use Rattle.laws.proofs.Routes.{without_ascends}
use Rattle.routes.specs.Found.{Hit}
use Rattle.routes.specs.Kept.{Kept}
use Rattle.routes.specs.Meant.{meant, prefix_bits}
use Rattle.routes.proofs.Finds.{absent_stays, all_ranged, hop_at, removed}
use Rattle.routes.proofs.set.RouteSet.remove.Goals as goal

pub invariant_of-self : goal.invariant_of-self
invariant_of-self g c =
    let bits = g.A.Address.bits in
    let xs = c.self.inside.routes.items in
    let p = prefix_bits bits c.args.prefix.prefix in
    let shows : map (meant bits) xs ≡ c.args.self.now.routes = ap (λ (k : Kept). k.routes) c.self.view_is in
    let hit = subst (λ (rs : Routes). Hit rs p c.in-Ok.i) (sym shows) c.in-Ok.ensures in
    (subst Ascending (sym (ap (map (meant bits)) c.remove.ensures.items ∙ removed bits xs p c.in-Ok.i hit)) (without_ascends (map (meant bits) xs) p c.self.invariant.0), all_ranged g.A.Address.WIDTH g.met.A.Address.long _)

pub returns-in-Ok-clause-answer : goal.returns-in-Ok-clause-answer
returns-in-Ok-clause-answer g c =
    let bits = g.A.Address.bits in
    let xs = c.self.inside.routes.items in
    let p = prefix_bits bits c.args.prefix.prefix in
    let shows : map (meant bits) xs ≡ c.args.self.now.routes = ap (λ (k : Kept). k.routes) c.self.view_is in
    let hit = subst (λ (rs : Routes). Hit rs p c.in-Ok.i) (sym shows) c.in-Ok.ensures in
    hop_at bits xs p c.in-Ok.i hit c.remove.result c.remove.ensures.value ∙ ap (λ (rs : Routes). find rs p) shows

pub returns-in-Ok-clause-after : goal.returns-in-Ok-clause-after
returns-in-Ok-clause-after g c =
    let bits = g.A.Address.bits in
    let xs = c.self.inside.routes.items in
    let p = prefix_bits bits c.args.prefix.prefix in
    let shows : map (meant bits) xs ≡ c.args.self.now.routes = ap (λ (k : Kept). k.routes) c.self.view_is in
    let hit = subst (λ (rs : Routes). Hit rs p c.in-Ok.i) (sym shows) c.in-Ok.ensures in
    ap (map (meant bits)) c.remove.ensures.items ∙ removed bits xs p c.in-Ok.i hit ∙ ap (λ (rs : Routes). without rs p) shows

pub returns-in-Err-clause-after : goal.returns-in-Err-clause-after
returns-in-Err-clause-after g c = sym (absent_stays c.args.self.now.routes (prefix_bits g.A.Address.bits c.args.prefix.prefix) c.in-Err.ensures.finds)

pub returns-in-Ok-clause-ordered : goal.returns-in-Ok-clause-ordered
returns-in-Ok-clause-ordered g c =
    let bits = g.A.Address.bits in
    let xs = c.self.inside.routes.items in
    let p = prefix_bits bits c.args.prefix.prefix in
    let shows : map (meant bits) xs ≡ c.args.self.now.routes = ap (λ (k : Kept). k.routes) c.self.view_is in
    let hit = subst (λ (rs : Routes). Hit rs p c.in-Ok.i) (sym shows) c.in-Ok.ensures in
    (subst Ascending (sym (ap (map (meant bits)) c.remove.ensures.items ∙ removed bits xs p c.in-Ok.i hit)) (without_ascends (map (meant bits) xs) p c.self.invariant.0), all_ranged g.A.Address.WIDTH g.met.A.Address.long _)
