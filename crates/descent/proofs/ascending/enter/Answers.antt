use Rattle.std.proofs.Common.{◌≡◌, ℕ, ◌≤◌, cond, ltb, not, Ok, Result, sym, ap, subst, length, take, drop, arith}
use Rattle.faults.specs.declared.Fault.{Fault}
use Rattle.model.specs.Nodes.{Nodes}
use Rattle.descent.specs.Entries.{Reads}
use Rattle.descent.proofs.Following.{was_read}
use Rattle.descent.proofs.Ways.{enters, group_child, row_fits, row_reads}
use Rattle.descent.proofs.ascending.enter.Goals as goal

pub child_on_way-requires : goal.child_on_way-requires
child_on_way-requires g c =
    let more = c.min-more.ensures in
    let stride = c.from.ensures in
    let few = c.requires.stride in
    record { bits = group_child (g.A.Address.bits c.args.path.address) c.args.path.length c.min-more.result c.group-bits.result (omega arith) c.group-bits.ensures }

-- a child of a node that was read is never refused
pub returns-in_err-child-clause-enters : goal.returns-in_err-child-clause-enters
returns-in_err-child-clause-enters g c =
    let N = g.M.NodeRead.nodes c.args.memory.now in
    let same : g.M.NodeRead.nodes c.read.new.memory ≡ N =
    g.met.M.NodeRead.laws.still_nodes c.args.memory.now c.read.new.memory c.read.ensures.still in
    let read = c.in_ok-node.ensures.read in
    let reads = was_read c.args.below.now read.0 read.1 (ap not c.is_empty.ensures) in
    let wrong = c.in_err-child.ensures.child c.args.below.now (subst (λ (m : Nodes). Reads m c.args.below.now c.in_ok-node.node) (sym same) reads) in
    absurd (cc)

pub returns-clause-enters : goal.returns-clause-enters
returns-clause-enters g c =
    let N = g.M.NodeRead.nodes c.args.memory.now in
    let a = g.A.Address.bits c.args.path.address in
    let o = c.args.path.length in
    let len = c.args.length in
    let s = c.args.stride in
    let below = c.args.below.now in
    let node = c.in_ok-node.node in
    let long = g.met.A.Address.long c.args.path.address in
    let within = c.requires.length in
    let to : len ≤ length a = omega arith in
    let same : g.M.NodeRead.nodes c.read.new.memory ≡ N =
    g.met.M.NodeRead.laws.still_nodes c.args.memory.now c.read.new.memory c.read.ensures.still in
    let read = c.in_ok-node.ensures.read in
    let on = ap not c.is_empty.ensures in
    let reads = was_read below read.0 read.1 on in
    let found = c.in_ok-child.ensures.child below (subst (λ (m : Nodes). Reads m below node) (sym same) reads) in
    enters read.0 read.1 on (take s (drop o (take len a))) c.min-more.result c.group-bits.result c.in_ok-child.child
    (row_fits a o len s c.requires.within to c.requires.stride c.min-more.ensures c.from.ensures)
    (row_reads a o len s c.requires.within to c.requires.stride c.min-more.ensures c.from.ensures c.group-bits.ensures)
    (subst (λ (m : Nodes). ◌≡◌ {A = Result ℕ Fault} (Ok c.in_ok-child.child) (Ok (cond (ltb c.min-more.result node.stride) 0 (m.child node.number c.group-bits.result)))) same found)
