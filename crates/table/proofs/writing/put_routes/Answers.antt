use Rattle.std.proofs.Common.{drop, ap, sym, ◌∙◌}
use Rattle.std.specs.Option.{option_map}
use Rattle.laws.proofs.Readings.{granted_same}
use Rattle.model.specs.Sheets.{routes_bytes}
use Rattle.descent.specs.Meant.{held_route}
use Rattle.table.proofs.Writings.{first_fits, first_put, is_none, last_put, next_shown, none_left, shown_still}
use Rattle.table.proofs.writing.put_routes.Goals as goal

pub returns-in_err-place-clause-put : goal.returns-in_err-place-clause-put
returns-in_err-place-clause-put g c routes at shown counted fits =
    let bits = g.A.Address.bits in
    let r = held_route bits c.in-Some.held in
    let next = next_shown shown c.loop.counter r (sym (ap (option_map (held_route bits)) c.in-Some.is) ∙ c.loop.invariant.found routes at shown) in
    first_fits next c.loop.place c.loop.output (c.loop.invariant.room routes at shown fits) _ _ _ (c.in_err-place.ensures next.small)

pub loop-preserved : goal.loop-preserved
loop-preserved g c =
    let bits = g.A.Address.bits in
    let laws = g.met.M.NodeRead.laws in
    let r = held_route bits c.in-Some.held in
    let same = laws.still_nodes c.args.memory.now c.loop.memory c.loop.invariant.still in
    record {
      still = laws.still_then c.args.memory.now c.loop.memory c.next.new.memory c.loop.invariant.still c.next.ensures.still;
      found = λ routes at shown.
          let next = next_shown shown c.loop.counter r (sym (ap (option_map (held_route bits)) c.in-Some.is) ∙ c.loop.invariant.found routes at shown) in
          granted_same _ _ (c.in_ok-next-2.ensures.shown routes at (shown_still same shown)) ∙ next.follows;
      same = λ routes at shown fits.
          let next = next_shown shown c.loop.counter r (sym (ap (option_map (held_route bits)) c.in-Some.is) ∙ c.loop.invariant.found routes at shown) in
          c.loop.invariant.same routes at shown fits
          ∙ (first_put next c.loop.place c.loop.output (c.loop.invariant.room routes at shown fits) c.in_ok-place.place c.put_held.new.output
          (c.in_ok-place.ensures next.small)).same;
      room = λ routes at shown fits.
          let next = next_shown shown c.loop.counter r (sym (ap (option_map (held_route bits)) c.in-Some.is) ∙ c.loop.invariant.found routes at shown) in
          (first_put next c.loop.place c.loop.output (c.loop.invariant.room routes at shown fits) c.in_ok-place.place c.put_held.new.output
          (c.in_ok-place.ensures next.small)).room;
    }

pub returns-in_default-clause-put : goal.returns-in_default-clause-put
returns-in_default-clause-put g c routes at shown counted fits =
    let bits = g.A.Address.bits in
    let left = drop c.loop.counter routes in
    let none = none_left left (sym (ap (option_map (held_route bits)) (is_none c.loop.next c.in_default.not-Some)) ∙ c.loop.invariant.found routes at shown) in
    last_put left c.args.place (routes_bytes routes) c.args.output.now c.loop.place c.loop.output none
    (c.loop.invariant.same routes at shown fits) (c.loop.invariant.room routes at shown fits)
