use Rattle.std.proofs.Common.{◌≡◌, ℕ, suc, true, refl, ◌+◌, ◌-◌, None, Some, Option, ap, sym, ◌∙◌, subst, arith}
use Rattle.std.specs.Option.{option_map}
use Rattle.model.specs.Bytes.{Bytes}
use Rattle.model.specs.Plans.{plan_ok}
use Rattle.model.specs.Reading.{series}
use Rattle.model.specs.Routes.{Route}
use Rattle.model.specs.Sheets.{read_route}
use Rattle.plan.specs.Strides.{strides_of}
use Rattle.routes.specs.Meant.{meant}
use Rattle.sheets.proofs.Series.{Going, few_newly, going_first, going_on}
use Rattle.sheets.proofs.Routes.count_required.Goals as goal

pub loop-init : goal.loop-init
loop-init g c =
    let W = g.A.Address.WIDTH in
    let plan = strides_of c.args.plan.now in
    let bytes = c.args.self.now.reader.bytes.now in
    let at = c.args.self.now.reader.place in
    let whole = series (read_route W) None c.args.count bytes at in
    let none : option_map (meant g.A.Address.bits) c.args.self.now.last ≡ None = ap (option_map (meant g.A.Address.bits)) c.requires in
    let all : c.args.count ≡ c.args.count - 0 = omega arith in
    record {
      going =
          subst (λ (l : Option Route). Going plan whole l (series (read_route W) l (c.args.count - 0) bytes at) 1) (sym none)
          (subst (λ (k : ℕ). Going plan whole None (series (read_route W) None k bytes at) 1) all (going_first plan whole));
      bytes = refl;
      few = omega arith;
    }

pub overflow_add-required : goal.overflow_add-required
overflow_add-required g c =
    let few = few_newly g.A.Address.WIDTH (strides_of c.args.plan.now) _ c.newly_required-required.result c.args.plan.now.right c.newly_required-required.ensures in
    omega (arith, c.loop.invariant.few, c.loop-test.true)

pub loop-preserved : goal.loop-preserved
loop-preserved g c =
    let W = g.A.Address.WIDTH in
    let bits = g.A.Address.bits in
    let plan = strides_of c.args.plan.now in
    let route = c.in_ok-route.route in
    let few = few_newly W plan _ c.newly_required-required.result c.args.plan.now.right c.newly_required-required.ensures in
    let bytes = c.args.self.now.reader.bytes.now in
    let whole = series (read_route W) None c.args.count bytes c.args.self.now.reader.place in
    let last = option_map (meant bits) c.loop.self.last in
    let at = c.loop.self.reader.place in
    let to = c.next.new.self.reader.place in
    let left = c.args.count - (c.loop.counter + 1) in
    let one_less : c.args.count - c.loop.counter ≡ suc left = omega (arith, c.loop-test.true) in
    let here : Going plan whole last (series (read_route W) last (suc left) bytes at) c.loop.required =
    subst (λ (k : ℕ). Going plan whole last (series (read_route W) last k bytes at) c.loop.required) one_less c.loop.invariant.going in
    let after : option_map (meant bits) c.next.new.self.last ≡ Some (meant bits route) = ap (option_map (meant bits)) c.in_ok-route.ensures.last in
    record {
      going =
          subst (λ (l : Option Route). Going plan whole l (series (read_route W) l left bytes to) (c.loop.required + c.newly_required-required.result)) (sym after)
          (going_on W plan whole last left bytes at c.loop.required here (meant bits route) to c.newly_required-required.result
          (bits route.prefix.address) route.prefix.length
          (c.in_ok-route.ensures.read ∙ ap (λ (b : Bytes). read_route W last b at) c.loop.invariant.bytes)
          refl route.sound.0
          (subst (λ (w : ℕ). plan_ok w plan ≡ true) (sym (g.met.A.Address.long route.prefix.address)) c.args.plan.now.right)
          c.newly_required-required.ensures);
      bytes = c.in_ok-route.ensures.bytes ∙ c.loop.invariant.bytes;
      few = omega (arith, c.loop.invariant.few);
    }
