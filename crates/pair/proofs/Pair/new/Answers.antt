use Rattle.std.proofs.Common.{◌≡◌, ◌∙◌, sym, ap}
use Rattle.model.specs.Nodes.{Nodes}
use Rattle.model.specs.Placements.{opened_placement}
use Rattle.pair.proofs.Pair.new.Goals as goal

pub returns-clause-agree : goal.returns-clause-agree
returns-clause-agree g c =
    let nodes = g.M.NodeRead.nodes in
    let same : nodes c.size-nodes.new.self ≡ nodes c.args.memory = g.met.M.NodeRead.laws.still_nodes c.args.memory c.size-nodes.new.self c.size-nodes.ensures.still in
    let at = opened_placement 0 in (
      at,
      record {
        stands = rw c.new.ensures.shows (c.new-2.ensures.shut at);
        size = rw c.new-2.ensures.memory (ap (λ (m : Nodes). m.size) same ∙ sym c.size-nodes.ensures.answer ∙ sym c.new.ensures.size);
      },
    )
