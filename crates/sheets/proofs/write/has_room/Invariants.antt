use Rattle.std.proofs.Common.{◌≡◌, ◌+◌, drop, length, nat_le}
use Rattle.sheets.specs.Written.{bytes_of}
use Rattle.sheets.proofs.write.has_room.Given as goal

-- the routes that are left have to fit what is left
abbrev pub invariant-loop-route : goal.invariant-loop-route
invariant-loop-route g l =
    nat_le (l.head + length (bytes_of g.A.Address.bits l.fn.routes)) l.fn.room
    ≡ nat_le (length (bytes_of g.A.Address.bits (drop l.route-index l.fn.routes))) l.left
