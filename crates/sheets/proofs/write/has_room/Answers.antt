use Rattle.std.proofs.Common.{◌+◌, ℕ, length, drop, nat_le, ap, sym, ◌∙◌}
use Rattle.model.specs.Bytes.{Bytes}
use Rattle.model.specs.Sheets.{route_bytes}
use Rattle.routes.specs.Meant.{meant}
use Rattle.sheets.specs.Written.{bytes_of}
use Rattle.sheets.proofs.Putting.{first_left, length_first, no_room, one_less_room}
use Rattle.sheets.proofs.write.has_room.Goals as goal

pub returns-then-size-left : goal.returns-then-size-left
returns-then-size-left g c =
    let bits = g.A.Address.bits in
    let routes = c.args.routes.now in
    let i = c.loop-route.route-index in
    let r = c.route-item.result in
    let left = first_left bits routes i r c.loop-route-test.true c.route-item.is in
    sym
    (ap (λ (k : ℕ). nat_le (13 + k + length (bytes_of bits routes)) c.args.room) (ap length (sym c.strides.ensures.value))
    ∙ c.loop-route.invariant
    ∙ ap (λ (b : Bytes). nat_le (length b) c.loop-route.left) left
    ∙ no_room (route_bytes (meant bits r)) (bytes_of bits (drop (i + 1) routes)) c.route_size-size.result c.loop-route.left
    (length_first r ∙ sym c.route_size-size.ensures) c.if-size-left.true)

pub loop-route-preserved : goal.loop-route-preserved
loop-route-preserved g c =
    let bits = g.A.Address.bits in
    let routes = c.args.routes.now in
    let i = c.loop-route.route-index in
    let r = c.route-item.result in
    c.loop-route.invariant
    ∙ ap (λ (b : Bytes). nat_le (length b) c.loop-route.left) (first_left bits routes i r c.loop-route-test.true c.route-item.is)
    ∙ one_less_room (route_bytes (meant bits r)) (bytes_of bits (drop (i + 1) routes)) c.route_size-size.result c.loop-route.left
    (length_first r ∙ sym c.route_size-size.ensures) c.if-size-left.false
