use Rattle.std.proofs.Common.{◌≡◌, not, ap, subst}
use Rattle.model.specs.Nodes.{Nodes}
use Rattle.descent.specs.Entries.{First}
use Rattle.descent.proofs.Following.{first_read}
use Rattle.descent.proofs.ascending.first_in.Goals as goal

pub returns-clause-first : goal.returns-clause-first
returns-clause-first g c =
    let N = g.M.NodeRead.nodes c.args.memory.now in
    let same : g.M.NodeRead.nodes c.read.new.memory ≡ N =
    g.met.M.NodeRead.laws.still_nodes c.args.memory.now c.read.new.memory c.read.ensures.still in
    let read = c.in_ok-node.ensures.read in
    first_read c.args.below.now read.0 read.1 (ap not c.is_empty.ensures)
    (subst (λ (m : Nodes). First m c.in_ok-node.node c.args.stride 1 c.first_entry.result) same c.first_entry.ensures.first)
