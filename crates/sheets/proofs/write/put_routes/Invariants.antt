use Rattle.std.proofs.Common.{◌≡◌, ◌+◌, ◌≤◌, drop, length}
use Rattle.messages.specs.Puts.{put_in}
use Rattle.sheets.specs.Written.{bytes_of}
use Rattle.sheets.proofs.write.put_routes.Given as goal

-- the routes that are left come to the same here, and fit
abbrev pub invariant-loop-route : goal.invariant-loop-route
invariant-loop-route g l =
    let left = bytes_of g.A.Address.bits (drop l.route-index l.fn.routes) in
    record {
      same : put_in l.fn.place (bytes_of g.A.Address.bits l.fn.routes) l.fn.output ≡ put_in l.place left l.output;
      room : l.place + length left ≤ length l.output;
    }
