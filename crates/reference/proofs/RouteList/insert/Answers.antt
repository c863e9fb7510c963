use Rattle.std.proofs.Common.{rules, ◌≡◌, ℕ, ◌≤◌, true, sym, ap, ◌∙◌, subst, ap₂, arith}
use Rattle.std.specs.Option.{option_map}
use Rattle.plan.specs.Strides.{strides_of}
use Rattle.address.specs.declared.prefix.Prefix.{Prefix}
use Rattle.bits.specs.Order.{Sound}
use Rattle.faults.specs.declared.Fault.{Fault}
use Rattle.faults.specs.Numbers.{number_of}
use Rattle.laws.specs.Counts.{count, missing}
use Rattle.model.specs.Outcomes.{is_granted, refused}
use Rattle.model.specs.Plans.{offsets}
use Rattle.model.specs.Required.{required}
use Rattle.model.specs.Routes.{last_hop, put}
use Rattle.model.specs.Calls.{insert}
use Rattle.reference.specs.Required.{required_by}
use Rattle.reference.specs.Shown.{answer_of}
use Rattle.routes.specs.Meant.{prefix_bits}
use Rattle.reference.proofs.Nodes.{answered, is_open, left_is, no_room, room, then_required}
use Rattle.reference.proofs.RouteList.insert.Goals as goal

pub returns-then-taken-self-clause-answer : goal.returns-then-taken-self-clause-answer
returns-then-taken-self-clause-answer g c =
    let bits = g.A.Address.bits in
    let W = g.A.Address.WIDTH in
    let t = c.args.self.now in
    let rs = t.routes.routes in
    let a = bits c.args.prefix.address in
    let l = c.args.prefix.length in
    let h = c.args.hop in
    let plan = strides_of c.in-Some.plan in
    let route = c.in_ok-route.route in
    let made = c.in_ok-route.ensures in
    let s : Sound a l = subst (λ (q : Prefix g.row.A.Denot). Sound (bits q.address) q.length) made.0 route.sound in
    let small : h ≤ last_hop = subst (λ (k : ℕ). k ≤ last_hop) made.1 route.small in
    let long = g.met.A.Address.long c.args.prefix.address in
    let ok = c.in-Some.plan.right in
    let counts : t.required ≡ required plan rs = t.counted ∙ ap (λ o. required_by (option_map strides_of o) rs) c.in-Some.is in
    let n = c.missing_nodes-taken.result in
    let missed : n ≡ count (missing rs a l) (offsets plan) =
    c.missing_nodes-taken.ensures
    ∙ ap (λ (q : Prefix g.row.A.Denot). count (missing rs (bits q.address) q.length) (offsets plan)) made.0 in
    let so = no_room W t.nodes plan rs t.required counts t.enough ok a l h n long s small missed c.if-taken-self.true in
    ap (λ (f : Fault). refused (number_of f.refusal) f.layer f.place) c.of_table-then-taken-self.ensures
    ∙ sym (answered W t.plan c.in-Some.plan c.in-Some.is t.nodes rs (insert a l h) _ so)

pub returns-then-taken-self-clause-after : goal.returns-then-taken-self-clause-after
returns-then-taken-self-clause-after g c =
    let bits = g.A.Address.bits in
    let W = g.A.Address.WIDTH in
    let t = c.args.self.now in
    let rs = t.routes.routes in
    let a = bits c.args.prefix.address in
    let l = c.args.prefix.length in
    let h = c.args.hop in
    let plan = strides_of c.in-Some.plan in
    let route = c.in_ok-route.route in
    let made = c.in_ok-route.ensures in
    let s : Sound a l = subst (λ (q : Prefix g.row.A.Denot). Sound (bits q.address) q.length) made.0 route.sound in
    let small : h ≤ last_hop = subst (λ (k : ℕ). k ≤ last_hop) made.1 route.small in
    let long = g.met.A.Address.long c.args.prefix.address in
    let ok = c.in-Some.plan.right in
    let counts : t.required ≡ required plan rs = t.counted ∙ ap (λ o. required_by (option_map strides_of o) rs) c.in-Some.is in
    let n = c.missing_nodes-taken.result in
    let missed : n ≡ count (missing rs a l) (offsets plan) =
    c.missing_nodes-taken.ensures
    ∙ ap (λ (q : Prefix g.row.A.Denot). count (missing rs (bits q.address) q.length) (offsets plan)) made.0 in
    let so = no_room W t.nodes plan rs t.required counts t.enough ok a l h n long s small missed c.if-taken-self.true in
    is_open W t.plan c.in-Some.plan c.in-Some.is t.nodes rs (insert a l h) _ so
    ∙ sym (left_is W t.plan c.in-Some.plan c.in-Some.is t.nodes rs (insert a l h) _ so)

pub returns-in_err-old-clause-answer : goal.returns-in_err-old-clause-answer
returns-in_err-old-clause-answer g c =
    let bits = g.A.Address.bits in
    let W = g.A.Address.WIDTH in
    let t = c.args.self.now in
    let rs = t.routes.routes in
    let a = bits c.args.prefix.address in
    let l = c.args.prefix.length in
    let h = c.args.hop in
    let plan = strides_of c.in-Some.plan in
    let route = c.in_ok-route.route in
    let made = c.in_ok-route.ensures in
    let s : Sound a l = subst (λ (q : Prefix g.row.A.Denot). Sound (bits q.address) q.length) made.0 route.sound in
    let small : h ≤ last_hop = subst (λ (k : ℕ). k ≤ last_hop) made.1 route.small in
    let long = g.met.A.Address.long c.args.prefix.address in
    let ok = c.in-Some.plan.right in
    let counts : t.required ≡ required plan rs = t.counted ∙ ap (λ o. required_by (option_map strides_of o) rs) c.in-Some.is in
    let n = c.missing_nodes-taken.result in
    let missed : n ≡ count (missing rs a l) (offsets plan) =
    c.missing_nodes-taken.ensures
    ∙ ap (λ (q : Prefix g.row.A.Denot). count (missing rs (bits q.address) q.length) (offsets plan)) made.0 in
    let so = room W t.nodes plan rs t.required counts t.enough ok a l h n long s small missed c.if-taken-self.false in
    let yes : is_granted (answer_of W t (insert a l h)) ≡ true = ap is_granted (answered W t.plan c.in-Some.plan c.in-Some.is t.nodes rs (insert a l h) _ so) in
    search rules

pub invariant_of-self-2 : goal.invariant_of-self-2
invariant_of-self-2 g c =
    let bits = g.A.Address.bits in
    let W = g.A.Address.WIDTH in
    let t = c.args.self.now in
    let rs = t.routes.routes in
    let a = bits c.args.prefix.address in
    let l = c.args.prefix.length in
    let h = c.args.hop in
    let plan = strides_of c.in-Some.plan in
    let route = c.in_ok-route.route in
    let made = c.in_ok-route.ensures in
    let s : Sound a l = subst (λ (q : Prefix g.row.A.Denot). Sound (bits q.address) q.length) made.0 route.sound in
    let small : h ≤ last_hop = subst (λ (k : ℕ). k ≤ last_hop) made.1 route.small in
    let long = g.met.A.Address.long c.args.prefix.address in
    let ok = c.in-Some.plan.right in
    let counts : t.required ≡ required plan rs = t.counted ∙ ap (λ o. required_by (option_map strides_of o) rs) c.in-Some.is in
    let n = c.missing_nodes-taken.result in
    let missed : n ≡ count (missing rs a l) (offsets plan) =
    c.missing_nodes-taken.ensures
    ∙ ap (λ (q : Prefix g.row.A.Denot). count (missing rs (bits q.address) q.length) (offsets plan)) made.0 in
    let sums = then_required W t.nodes plan rs t.required counts t.enough ok a l h n long s small missed in
    let new : c.put.new.self.routes ≡ put rs (prefix_bits bits c.args.prefix) h = c.in_ok-old.ensures.after ∙ ap₂ (λ q k. put rs (prefix_bits bits q) k) made.0 made.1 in
    let is : required_by (option_map strides_of t.plan) c.put.new.self.routes ≡ required plan (put rs (prefix_bits bits c.args.prefix) h) =
    ap (λ o. required_by (option_map strides_of o) c.put.new.self.routes) c.in-Some.is ∙ ap (required plan) new in
    record {
      ordered = c.in_ok-old.ensures.ordered;
      enough = (let less = c.if-taken-self.false in let was = t.enough in omega arith);
      counted = omega arith;
    }
