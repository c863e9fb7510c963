use Rattle.std.proofs.Common.{◌≡◌, ℕ, List, [], Option, cond, ltb, refl, sym, subst}
use Rattle.growth.proofs.Taken.{ok_alone}
use Rattle.model.specs.Placements.{opened_placement}
use Rattle.table.specs.Stands.{Open}
use Rattle.table.proofs.Openings.{opens}
use Rattle.table.proofs.Table.empty.Goals as goal

pub returns-clause-emptied : goal.returns-clause-emptied
returns-clause-emptied g c plan held at s some =
    let W = g.A.Address.WIDTH in
    let m = g.M.NodeRead.nodes c.args.self.now.memory in
    let N = m.size in
    let front : c.in_ok-self.field-0 ≡ cond (ltb 1 N) 1 0 = ok_alone _ _ c.in_ok-self.ensures.done in (
      refl,
      subst (λ (p : Option (List ℕ)). Open W (g.M.NodeRead.nodes c.open.new.memory) p c.in_ok-self.field-0 0 1 plan [] (opened_placement N)) (sym s.planned)
          (opens W N (g.M.NodeRead.nodes c.open.new.memory) plan c.in_ok-self.field-0 s.shows.holdable.planned some c.open.ensures.opened front),
    )
