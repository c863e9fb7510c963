use Rattle.std.proofs.Common.{◌≡◌, ℕ, suc, ◌+◌, ◌-◌, [], Some, Option, ap, sym, ◌∙◌, subst, refl, arith}
use Rattle.std.specs.Option.{option_map}
use Rattle.model.specs.Bytes.{Bytes}
use Rattle.model.specs.Reading.{series}
use Rattle.model.specs.Routes.{Route, Routes}
use Rattle.model.specs.Sheets.{read_route}
use Rattle.routes.specs.Meant.{meant}
use Rattle.sheets.specs.Held.{to_read}
use Rattle.reference.proofs.Loading.{Taking, none_refused, taking_first, taking_on}
use Rattle.reference.proofs.sheet_calls.set_of.Goals as goal

pub loop-init : goal.loop-init
loop-init g c =
    let W = g.A.Address.WIDTH in
    let routes = c.args.routes.now in
    let last = option_map (meant g.A.Address.bits) routes.last in
    let bytes = routes.reader.bytes.now in
    let at = routes.reader.place in
    let whole = to_read W c.args.count routes in
    let all : c.args.count ≡ c.args.count - 0 = omega arith in
    record {
      taking =
          subst (λ (rs : Routes). Taking whole rs (series (read_route W) last (c.args.count - 0) bytes at)) (sym c.new-set.ensures)
          (subst (λ (k : ℕ). Taking whole [] (series (read_route W) last k bytes at)) all (taking_first whole c.requires.read c.requires.ordered.0));
      bytes = refl;
    }

pub returns-in_err-route : goal.returns-in_err-route
returns-in_err-route g c =
    let W = g.A.Address.WIDTH in
    let last = option_map (meant g.A.Address.bits) c.loop.routes.last in
    let bytes = c.args.routes.now.reader.bytes.now in
    let at = c.loop.routes.reader.place in
    let whole = to_read W c.args.count c.args.routes.now in
    let left = c.args.count - (c.loop.counter + 1) in
    let one_less : c.args.count - c.loop.counter ≡ suc left = omega (arith, c.loop-test.true) in
    let here : Taking whole c.loop.set.routes (series (read_route W) last (suc left) bytes at) =
    subst (λ (k : ℕ). Taking whole c.loop.set.routes (series (read_route W) last k bytes at)) one_less c.loop.invariant.taking in
    absurd
    (none_refused W whole c.loop.set.routes last left bytes at here c.requires.read _ _ _
    (c.in_err-route.ensures.read ∙ ap (λ (b : Bytes). read_route W last b at) c.loop.invariant.bytes))

pub loop-preserved : goal.loop-preserved
loop-preserved g c =
    let W = g.A.Address.WIDTH in
    let bits = g.A.Address.bits in
    let route = c.in_ok-route.route in
    let last = option_map (meant bits) c.loop.routes.last in
    let bytes = c.args.routes.now.reader.bytes.now in
    let at = c.loop.routes.reader.place in
    let to = c.next.new.self.reader.place in
    let whole = to_read W c.args.count c.args.routes.now in
    let left = c.args.count - (c.loop.counter + 1) in
    let one_less : c.args.count - c.loop.counter ≡ suc left = omega (arith, c.loop-test.true) in
    let here : Taking whole c.loop.set.routes (series (read_route W) last (suc left) bytes at) =
    subst (λ (k : ℕ). Taking whole c.loop.set.routes (series (read_route W) last k bytes at)) one_less c.loop.invariant.taking in
    let after : option_map (meant bits) c.next.new.self.last ≡ Some (meant bits route) = ap (option_map (meant bits)) c.in_ok-route.ensures.last in
    let next =
    taking_on W whole c.loop.set.routes last left bytes at here (meant bits route) to
    (c.in_ok-route.ensures.read ∙ ap (λ (b : Bytes). read_route W last b at) c.loop.invariant.bytes) in
    record {
      taking =
          subst (λ (l : Option Route). Taking whole c.put.new.self.routes (series (read_route W) l left bytes to)) (sym after)
          (subst (λ (rs : Routes). Taking whole rs (series (read_route W) (Some (meant bits route)) left bytes to)) (sym c.in_ok-put.ensures.after) next);
      bytes = c.in_ok-route.ensures.bytes ∙ c.loop.invariant.bytes;
    }
