use Rattle.std.proofs.Common.{◌≡◌, ◌+◌, ◌*◌, ◌≤◌, drop, take}
use Rattle.std.specs.Option.{option_map, option_to_list}
use Rattle.bits.specs.Order.{begins}
use Rattle.model.specs.Plans.{offsets, offsets_from}
use Rattle.laws.specs.Counts.{count, missing}
use Rattle.routes.specs.Meant.{meant}
use Rattle.sheets.proofs.required.newly_required.Given as goal

abbrev pub invariant-loop-stride : goal.invariant-loop-stride
invariant-loop-stride g l =
    let bits = g.A.Address.bits in
    let test = missing (option_to_list (option_map (meant bits {G = g.A.Address}) l.last)) (bits l.prefix.address) l.prefix.length in
    record {
      reached : l.offset ≤ 255 * l.stride-index;
      few : l.nodes ≤ l.stride-index;
      shared : l.same ≡ begins (take l.offset (bits l.prefix.address)) (bits l.before);
      counted : count test (offsets l.stride-items) ≡ l.nodes + count test (offsets_from l.offset (drop l.stride-index l.stride-items));
    }
