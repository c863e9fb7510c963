use Rattle.std.proofs.Common.{◌≡◌, ◌-◌}
use Rattle.std.specs.Option.{option_map}
use Rattle.model.specs.Reading.{series}
use Rattle.model.specs.Sheets.{read_route}
use Rattle.routes.specs.Meant.{meant}
use Rattle.sheets.specs.Held.{to_read}
use Rattle.reference.proofs.Loading.{Taking}
use Rattle.reference.proofs.sheet_calls.set_of.Given as goal

-- the set has the routes so far, and the others are read from here on
abbrev pub invariant-loop : goal.invariant-loop
invariant-loop g l =
    let W = g.A.Address.WIDTH in
    let bytes = l.fn.routes.reader.bytes.now in
    let last = option_map (meant g.A.Address.bits) l.routes.last in
    record {
      taking :
          Taking (to_read W l.fn.count l.fn.routes) l.set.routes
          (series (read_route W) last (l.fn.count - l.counter) bytes l.routes.reader.place);
      bytes : l.routes.reader.bytes.now ≡ bytes;
    }
