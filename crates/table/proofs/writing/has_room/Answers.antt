use Rattle.std.proofs.Common.{◌+◌, ℕ, length, nat_le, ap, sym, ◌∙◌}
use Rattle.std.specs.Option.{option_map}
use Rattle.laws.proofs.Readings.{granted_same}
use Rattle.model.specs.Outcomes.{granted}
use Rattle.model.specs.Sheets.{routes_bytes}
use Rattle.descent.specs.Meant.{held_route}
use Rattle.table.proofs.Writings.{length_held, next_shown, none_fits, others_fit, shown_still}
use Rattle.table.proofs.writing.has_room.Goals as goal

pub returns-then-size-left-clause-room : goal.returns-then-size-left-clause-room
returns-then-size-left-clause-room g c routes at shown counted =
    let bits = g.A.Address.bits in
    let r = held_route bits c.in-Some.held in
    let next = next_shown shown c.loop.counter r (sym (ap (option_map (held_route bits)) c.in-Some.is) ∙ c.loop.invariant.found routes at shown) in
    ap granted
    (sym
    (ap (λ (k : ℕ). nat_le (13 + k + length (routes_bytes routes)) c.args.room) (ap length (sym c.strides.ensures.value))
    ∙ c.loop.invariant.fits routes at shown
    ∙ none_fits next c.route_size-size.result c.loop.left (length_held c.in-Some.held ∙ sym c.route_size-size.ensures) c.if-size-left.true))

pub loop-preserved : goal.loop-preserved
loop-preserved g c =
    let bits = g.A.Address.bits in
    let laws = g.met.M.NodeRead.laws in
    let r = held_route bits c.in-Some.held in
    let same = laws.still_nodes c.args.memory.now c.loop.memory c.loop.invariant.still in
    record {
      still = laws.still_then c.args.memory.now c.loop.memory c.next.new.memory c.loop.invariant.still c.next.ensures.still;
      found = λ routes at shown.
          let next = next_shown shown c.loop.counter r (sym (ap (option_map (held_route bits)) c.in-Some.is) ∙ c.loop.invariant.found routes at shown) in
          granted_same _ _ (c.in_ok-next-2.ensures.shown routes at (shown_still same shown)) ∙ next.follows;
      fits = λ routes at shown.
          let next = next_shown shown c.loop.counter r (sym (ap (option_map (held_route bits)) c.in-Some.is) ∙ c.loop.invariant.found routes at shown) in
          c.loop.invariant.fits routes at shown
          ∙ others_fit next c.route_size-size.result c.loop.left (length_held c.in-Some.held ∙ sym c.route_size-size.ensures) c.if-size-left.false;
    }
