use Rattle.std.proofs.Common.{◌≡◌, Some, sym, ap, ◌∙◌, subst, arith}
use Rattle.std.specs.Option.{option_map}
use Rattle.plan.specs.Strides.{strides_of}
use Rattle.address.specs.declared.prefix.Prefix.{Prefix}
use Rattle.bits.specs.Order.{Sound}
use Rattle.laws.specs.Counts.{count, missing}
use Rattle.model.specs.Plans.{offsets}
use Rattle.model.specs.Required.{required}
use Rattle.model.specs.Routes.{Routes, find, without}
use Rattle.model.specs.Calls.{delete}
use Rattle.reference.specs.Required.{required_by}
use Rattle.routes.specs.Meant.{prefix_bits}
use Rattle.reference.proofs.Nodes.{answered, gone, still_required}
use Rattle.reference.proofs.RouteList.delete.Goals as goal

pub overflow_sub-self : goal.overflow_sub-self
overflow_sub-self g c =
    let bits = g.A.Address.bits in
    let W = g.A.Address.WIDTH in
    let t = c.args.self.now in
    let rs = t.routes.routes in
    let a = bits c.args.prefix.address in
    let l = c.args.prefix.length in
    let p = prefix_bits bits c.args.prefix in
    let h = c.in_ok-hop.hop in
    let plan = strides_of c.in-Some.plan in
    let made = c.in_ok-prefix.ensures in
    let s : Sound a l = subst (λ (q : Prefix g.row.A.Denot). Sound (bits q.address) q.length) made c.in_ok-prefix.prefix.sound in
    let long = g.met.A.Address.long c.args.prefix.address in
    let ok = c.in-Some.plan.right in
    let counts : t.required ≡ required plan rs = t.counted ∙ ap (λ o. required_by (option_map strides_of o) rs) c.in-Some.is in
    let there : find rs p ≡ Some h = sym (sym c.in_ok-hop.ensures.ok_part ∙ c.remove.ensures.answer ∙ ap (λ (q : Prefix g.row.A.Denot). find rs (prefix_bits bits q)) made) in
    let new : c.remove.new.self.routes ≡ without rs p = c.remove.ensures.after ∙ ap (λ (q : Prefix g.row.A.Denot). without rs (prefix_bits bits q)) made in
    let n = c.missing_nodes-returned.result in
    let missed : n ≡ count (missing (without rs p) a l) (offsets plan) =
    c.missing_nodes-returned.ensures
    ∙ ap (λ (qs : Routes). count (missing qs (bits c.in_ok-prefix.prefix.prefix.address) c.in_ok-prefix.prefix.prefix.length) (offsets plan)) new
    ∙ ap (λ (q : Prefix g.row.A.Denot). count (missing (without rs p) (bits q.address) q.length) (offsets plan)) made in
    let up = t.ordered.0 in
    let sums = still_required W t.nodes plan rs t.required counts ok up a l h n long s there missed in
    omega arith

pub invariant_of-self-2 : goal.invariant_of-self-2
invariant_of-self-2 g c =
    let bits = g.A.Address.bits in
    let W = g.A.Address.WIDTH in
    let t = c.args.self.now in
    let rs = t.routes.routes in
    let a = bits c.args.prefix.address in
    let l = c.args.prefix.length in
    let p = prefix_bits bits c.args.prefix in
    let h = c.in_ok-hop.hop in
    let plan = strides_of c.in-Some.plan in
    let made = c.in_ok-prefix.ensures in
    let s : Sound a l = subst (λ (q : Prefix g.row.A.Denot). Sound (bits q.address) q.length) made c.in_ok-prefix.prefix.sound in
    let long = g.met.A.Address.long c.args.prefix.address in
    let ok = c.in-Some.plan.right in
    let counts : t.required ≡ required plan rs = t.counted ∙ ap (λ o. required_by (option_map strides_of o) rs) c.in-Some.is in
    let there : find rs p ≡ Some h = sym (sym c.in_ok-hop.ensures.ok_part ∙ c.remove.ensures.answer ∙ ap (λ (q : Prefix g.row.A.Denot). find rs (prefix_bits bits q)) made) in
    let new : c.remove.new.self.routes ≡ without rs p = c.remove.ensures.after ∙ ap (λ (q : Prefix g.row.A.Denot). without rs (prefix_bits bits q)) made in
    let n = c.missing_nodes-returned.result in
    let missed : n ≡ count (missing (without rs p) a l) (offsets plan) =
    c.missing_nodes-returned.ensures
    ∙ ap (λ (qs : Routes). count (missing qs (bits c.in_ok-prefix.prefix.prefix.address) c.in_ok-prefix.prefix.prefix.length) (offsets plan)) new
    ∙ ap (λ (q : Prefix g.row.A.Denot). count (missing (without rs p) (bits q.address) q.length) (offsets plan)) made in
    let up = t.ordered.0 in
    let sums = still_required W t.nodes plan rs t.required counts ok up a l h n long s there missed in
    let is : required_by (option_map strides_of t.plan) c.remove.new.self.routes ≡ required plan (without rs p) =
    ap (λ o. required_by (option_map strides_of o) c.remove.new.self.routes) c.in-Some.is ∙ ap (required plan) new in
    record { ordered = c.remove.ensures.ordered; enough = (let was = t.enough in omega arith); counted = omega arith }

pub returns-clause-answer : goal.returns-clause-answer
returns-clause-answer g c =
    let bits = g.A.Address.bits in
    let W = g.A.Address.WIDTH in
    let t = c.args.self.now in
    let rs = t.routes.routes in
    let a = bits c.args.prefix.address in
    let l = c.args.prefix.length in
    let p = prefix_bits bits c.args.prefix in
    let h = c.in_ok-hop.hop in
    let plan = strides_of c.in-Some.plan in
    let made = c.in_ok-prefix.ensures in
    let s : Sound a l = subst (λ (q : Prefix g.row.A.Denot). Sound (bits q.address) q.length) made c.in_ok-prefix.prefix.sound in
    let long = g.met.A.Address.long c.args.prefix.address in
    let ok = c.in-Some.plan.right in
    let counts : t.required ≡ required plan rs = t.counted ∙ ap (λ o. required_by (option_map strides_of o) rs) c.in-Some.is in
    let there : find rs p ≡ Some h = sym (sym c.in_ok-hop.ensures.ok_part ∙ c.remove.ensures.answer ∙ ap (λ (q : Prefix g.row.A.Denot). find rs (prefix_bits bits q)) made) in
    let new : c.remove.new.self.routes ≡ without rs p = c.remove.ensures.after ∙ ap (λ (q : Prefix g.row.A.Denot). without rs (prefix_bits bits q)) made in
    let n = c.missing_nodes-returned.result in
    let missed : n ≡ count (missing (without rs p) a l) (offsets plan) =
    c.missing_nodes-returned.ensures
    ∙ ap (λ (qs : Routes). count (missing qs (bits c.in_ok-prefix.prefix.prefix.address) c.in_ok-prefix.prefix.prefix.length) (offsets plan)) new
    ∙ ap (λ (q : Prefix g.row.A.Denot). count (missing (without rs p) (bits q.address) q.length) (offsets plan)) made in
    let up = t.ordered.0 in
    let so = gone W t.nodes plan rs t.required counts ok up a l h n long s there missed in
    sym (answered W t.plan c.in-Some.plan c.in-Some.is t.nodes rs (delete a l) _ so)
