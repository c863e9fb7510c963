use Rattle.std.proofs.Common.{◌+◌, ◌≤◌, length, drop, ap, ◌∙◌, subst}
use Rattle.model.specs.Bytes.{Bytes}
use Rattle.model.specs.Sheets.{route_bytes}
use Rattle.routes.specs.Meant.{meant}
use Rattle.messages.specs.Puts.{put_in}
use Rattle.sheets.specs.Written.{bytes_of}
use Rattle.sheets.proofs.Putting.{first_left, one_less}
use Rattle.sheets.proofs.write.put_routes.Goals as goal

pub loop-route-preserved : goal.loop-route-preserved
loop-route-preserved g c =
    let bits = g.A.Address.bits in
    let routes = c.args.routes.now in
    let i = c.loop-route.route-index in
    let r = c.route-item.result in
    let more = bytes_of bits (drop (i + 1) routes) in
    let first = route_bytes (meant bits r) in
    let left = first_left bits routes i r c.loop-route-test.true c.route-item.is in
    let step =
    one_less c.loop-route.place first more c.loop-route.output c.in_ok-place.place c.put_route.new.output
    (subst (λ (b : Bytes). c.loop-route.place + length b ≤ length c.loop-route.output) left c.loop-route.invariant.room)
    c.in_ok-place.ensures.answer in
    record {
      same = c.loop-route.invariant.same ∙ ap (λ (b : Bytes). put_in c.loop-route.place b c.loop-route.output) left ∙ step.same;
      room = step.room;
    }
