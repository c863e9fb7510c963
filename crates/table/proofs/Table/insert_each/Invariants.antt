use Rattle.std.proofs.Common.{◌≡◌, ℕ, ◌-◌, ◌≤◌, List, [], None}
use Rattle.model.specs.Calls.{holding}
use Rattle.model.specs.Outcomes.{granted}
use Rattle.model.specs.Placements.{Placement}
use Rattle.model.specs.Required.{required}
use Rattle.model.specs.Routes.{Routes}
use Rattle.routes.specs.InOrder.{InOrder}
use Rattle.sheets.specs.Held.{to_read}
use Rattle.table.specs.Stands.{Stands}
use Rattle.table.proofs.Loadings.{Loading}
use Rattle.table.proofs.Table.insert_each.Given as goal

-- the routes so far are inserted, and the others are still to be read
abbrev pub invariant-loop : goal.invariant-loop
invariant-loop g l =
    let nodes = g.M.NodeRead.nodes in
    let W = g.A.Address.WIDTH in
    let N = (nodes l.fn.self.memory).size in
    record {
      loading : (plan : List ℕ) (at : Placement) (held : Routes) (end : ℕ) → Stands nodes W l.fn.self (holding plan []) at → l.fn.routes.last ≡ None
          → to_read W l.fn.count l.fn.routes ≡ granted (held, end) → InOrder W held → required plan held ≤ N
          → Loading nodes W plan at held end l.self (to_read W (l.fn.count - l.counter) l.routes);
      always : g.M.NodeRead.always l.fn.self.memory l.self.memory;
    }
