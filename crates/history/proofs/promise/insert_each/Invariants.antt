use Rattle.std.proofs.Common.{drop}
use Rattle.model.specs.Calls.{Plain}
use Rattle.model.specs.Placements.{Placement}
use Rattle.table.specs.Stands.{Stands}
use Rattle.history.specs.Asked.{inserts}
use Rattle.history.proofs.Feeding.{Coming}
use Rattle.history.proofs.promise.insert_each.Given as goal

-- the routes that are left are still to come
abbrev pub invariant-loop-route : goal.invariant-loop-route
invariant-loop-route g l =
    let nodes = g.M.NodeRead.nodes in
    let bits = g.A.Address.bits in
    let W = g.A.Address.WIDTH in
    let N = (nodes l.fn.table.memory).size in
    record {
      coming : (plain : Plain) (at : Placement) → Stands nodes W l.fn.table plain at
          → Coming nodes W N plain at (inserts bits l.fn.routes) l.table (inserts bits (drop l.route-index l.fn.routes));
      always : g.M.NodeRead.always l.fn.table.memory l.table.memory;
    }
