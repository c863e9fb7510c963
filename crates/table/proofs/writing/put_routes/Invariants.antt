use Rattle.std.proofs.Common.{◌≡◌, ◌+◌, ◌≤◌, drop, length}
use Rattle.std.specs.Option.{option_map}
use Rattle.model.specs.Placements.{Placement}
use Rattle.model.specs.Routes.{Routes, smallest}
use Rattle.model.specs.Sheets.{routes_bytes}
use Rattle.plan.specs.Strides.{strides_of}
use Rattle.walks.specs.Shows.{Shows}
use Rattle.descent.specs.Meant.{held_route}
use Rattle.messages.specs.Puts.{put_in}
use Rattle.table.proofs.writing.put_routes.Given as goal

-- what was found is the next of the routes that are left, which come to the same here, and fit
abbrev pub invariant-loop : goal.invariant-loop
invariant-loop g l =
    record {
      still : g.M.NodeRead.still l.fn.memory l.memory;
      found : (routes : Routes) (at : Placement) → Shows g.A.Address.WIDTH (g.M.NodeRead.nodes l.fn.memory) (strides_of l.fn.plan) routes at
          → option_map (held_route g.A.Address.bits) l.next ≡ smallest (drop l.counter routes);
      same : (routes : Routes) (at : Placement) → Shows g.A.Address.WIDTH (g.M.NodeRead.nodes l.fn.memory) (strides_of l.fn.plan) routes at
          → l.fn.place + length (routes_bytes routes) ≤ length l.fn.output
          → put_in l.fn.place (routes_bytes routes) l.fn.output ≡ put_in l.place (routes_bytes (drop l.counter routes)) l.output;
      room : (routes : Routes) (at : Placement) → Shows g.A.Address.WIDTH (g.M.NodeRead.nodes l.fn.memory) (strides_of l.fn.plan) routes at
          → l.fn.place + length (routes_bytes routes) ≤ length l.fn.output
          → l.place + length (routes_bytes (drop l.counter routes)) ≤ length l.output;
    }
