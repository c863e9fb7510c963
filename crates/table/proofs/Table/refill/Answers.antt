use Rattle.std.proofs.Common.{ℕ, ◌≤◌, sym, subst, arith}
use Rattle.growth.proofs.Taken.{not_refused}
use Rattle.laws.proofs.Loads.{some_required}
use Rattle.model.specs.Placements.{after_load, opened_placement}
use Rattle.model.specs.Required.{required}
use Rattle.table.proofs.Table.refill.Goals as goal

pub returns-clause-refilled : goal.returns-clause-refilled
unfolding after_load
returns-clause-refilled g c plan was at held end stands first reads order room =
    let N = (g.M.NodeRead.nodes c.args.self.now.memory).size in
    let some = some_required plan held in
    let emptied = c.empty.ensures.emptied plan was at stands (omega arith) in
    let size = g.met.M.NodeRead.laws.always_size c.args.self.now.memory c.empty.new.self.memory c.empty.ensures.always in
    c.insert_each.ensures.inserted plan (opened_placement N) held end emptied.1 first reads order
    (subst (λ (n : ℕ). required plan held ≤ n) (sym size) room)

pub returns-in_err-empty-clause-refilled : goal.returns-in_err-empty-clause-refilled
returns-in_err-empty-clause-refilled g c plan was at held end stands first reads order room =
    let some = some_required plan held in
    absurd (not_refused (c.in_err-empty.ensures.emptied plan was at stands (omega arith)).0)
