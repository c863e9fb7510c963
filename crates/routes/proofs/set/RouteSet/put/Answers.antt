use Rattle.std.proofs.Common.{◌≡◌, map, sym, ap, ◌∙◌, subst}
use Rattle.model.specs.Routes.{Routes, Ascending, find, put}
use Rattle.laws.proofs.Routes.{put_ascends}
use Rattle.routes.specs.Found.{Hit, Miss}
use Rattle.routes.specs.Kept.{Kept}
use Rattle.routes.specs.Meant.{meant, prefix_bits}
use Rattle.routes.proofs.Finds.{all_ranged, hop_at, replaced, inserted}
use Rattle.routes.proofs.set.RouteSet.put.Goals as goal

pub invariant_of-self : goal.invariant_of-self
invariant_of-self g c =
    let bits = g.A.Address.bits in
    let xs = c.self.inside.routes.items in
    let x = c.args.route in
    let p = prefix_bits bits x.prefix in
    let shows : map (meant bits) xs ≡ c.args.self.now.routes = ap (λ (k : Kept). k.routes) c.self.view_is in
    let hit = subst (λ (rs : Routes). Hit rs p c.in-Ok.i) (sym shows) c.in-Ok.ensures in
    (subst Ascending (sym (replaced bits xs c.in-Ok.i x hit)) (put_ascends (map (meant bits) xs) p x.hop c.self.invariant.0), all_ranged g.A.Address.WIDTH g.met.A.Address.long _)

pub invariant_of-self-in-Err : goal.invariant_of-self-in-Err
invariant_of-self-in-Err g c =
    let bits = g.A.Address.bits in
    let xs = c.self.inside.routes.items in
    let x = c.args.route in
    let p = prefix_bits bits x.prefix in
    let shows : map (meant bits) xs ≡ c.args.self.now.routes = ap (λ (k : Kept). k.routes) c.self.view_is in
    let miss = subst (λ (rs : Routes). Miss rs p c.in-Err.i) (sym shows) c.in-Err.ensures in
    (subst Ascending (sym (ap (map (meant bits)) c.in_ok-insert-in-Err.ensures.items ∙ inserted bits xs c.in-Err.i x miss)) (put_ascends (map (meant bits) xs) p x.hop c.self.invariant.0), all_ranged g.A.Address.WIDTH g.met.A.Address.long _)

pub returns-in-Ok-clause-answer : goal.returns-in-Ok-clause-answer
returns-in-Ok-clause-answer g c =
    let bits = g.A.Address.bits in
    let xs = c.self.inside.routes.items in
    let p = prefix_bits bits c.args.route.prefix in
    let shows : map (meant bits) xs ≡ c.args.self.now.routes = ap (λ (k : Kept). k.routes) c.self.view_is in
    let hit = subst (λ (rs : Routes). Hit rs p c.in-Ok.i) (sym shows) c.in-Ok.ensures in
    hop_at bits xs p c.in-Ok.i hit c.index.result.now c.index.ensures ∙ ap (λ (rs : Routes). find rs p) shows

pub returns-in-Ok-clause-after : goal.returns-in-Ok-clause-after
returns-in-Ok-clause-after g c =
    let bits = g.A.Address.bits in
    let xs = c.self.inside.routes.items in
    let x = c.args.route in
    let p = prefix_bits bits x.prefix in
    let shows : map (meant bits) xs ≡ c.args.self.now.routes = ap (λ (k : Kept). k.routes) c.self.view_is in
    let hit = subst (λ (rs : Routes). Hit rs p c.in-Ok.i) (sym shows) c.in-Ok.ensures in
    replaced bits xs c.in-Ok.i x hit ∙ ap (λ (rs : Routes). put rs p x.hop) shows

pub returns-in_ok-insert-in-Err-clause-after : goal.returns-in_ok-insert-in-Err-clause-after
returns-in_ok-insert-in-Err-clause-after g c =
    let bits = g.A.Address.bits in
    let xs = c.self.inside.routes.items in
    let x = c.args.route in
    let p = prefix_bits bits x.prefix in
    let shows : map (meant bits) xs ≡ c.args.self.now.routes = ap (λ (k : Kept). k.routes) c.self.view_is in
    let miss = subst (λ (rs : Routes). Miss rs p c.in-Err.i) (sym shows) c.in-Err.ensures in
    ap (map (meant bits)) c.in_ok-insert-in-Err.ensures.items ∙ inserted bits xs c.in-Err.i x miss ∙ ap (λ (rs : Routes). put rs p x.hop) shows

pub returns-in-Ok-clause-ordered : goal.returns-in-Ok-clause-ordered
returns-in-Ok-clause-ordered g c =
    let bits = g.A.Address.bits in
    let xs = c.self.inside.routes.items in
    let x = c.args.route in
    let p = prefix_bits bits x.prefix in
    let shows : map (meant bits) xs ≡ c.args.self.now.routes = ap (λ (k : Kept). k.routes) c.self.view_is in
    let hit = subst (λ (rs : Routes). Hit rs p c.in-Ok.i) (sym shows) c.in-Ok.ensures in
    (subst Ascending (sym (replaced bits xs c.in-Ok.i x hit)) (put_ascends (map (meant bits) xs) p x.hop c.self.invariant.0), all_ranged g.A.Address.WIDTH g.met.A.Address.long _)

pub returns-in_ok-insert-in-Err-clause-ordered : goal.returns-in_ok-insert-in-Err-clause-ordered
returns-in_ok-insert-in-Err-clause-ordered g c =
    let bits = g.A.Address.bits in
    let xs = c.self.inside.routes.items in
    let x = c.args.route in
    let p = prefix_bits bits x.prefix in
    let shows : map (meant bits) xs ≡ c.args.self.now.routes = ap (λ (k : Kept). k.routes) c.self.view_is in
    let miss = subst (λ (rs : Routes). Miss rs p c.in-Err.i) (sym shows) c.in-Err.ensures in
    (subst Ascending (sym (ap (map (meant bits)) c.in_ok-insert-in-Err.ensures.items ∙ inserted bits xs c.in-Err.i x miss)) (put_ascends (map (meant bits) xs) p x.hop c.self.invariant.0), all_ranged g.A.Address.WIDTH g.met.A.Address.long _)
