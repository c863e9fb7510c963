use Rattle.std.proofs.Common.{◌≡◌, ◌+◌, ◌*◌, ◌-◌, ◌≤◌, None}
use Rattle.std.specs.Option.{option_map}
use Rattle.model.specs.Reading.{series}
use Rattle.model.specs.Sheets.{read_route}
use Rattle.plan.specs.Strides.{strides_of}
use Rattle.routes.specs.Meant.{meant}
use Rattle.sheets.proofs.Series.{Going}
use Rattle.sheets.proofs.Routes.count_required.Given as goal

-- the routes so far are done, and the others are read from here on
abbrev pub invariant-loop : goal.invariant-loop
invariant-loop g l =
    let W = g.A.Address.WIDTH in
    let bytes = l.fn.self.reader.bytes.now in
    let last = option_map (meant g.A.Address.bits) l.self.last in
    record {
      going :
          Going (strides_of l.fn.plan) (series (read_route W) None l.fn.count bytes l.fn.self.reader.place) last
          (series (read_route W) last (l.fn.count - l.counter) bytes l.self.reader.place) l.required;
      bytes : l.self.reader.bytes.now ≡ bytes;
      few : l.required ≤ 1 + 32 * l.counter;
    }
