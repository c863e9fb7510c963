use Rattle.std.proofs.Common.{◌≡◌, true, sym, ap, ◌∙◌, lt-ltb, arith}
use Rattle.model.specs.Nodes.{Nodes}
use Rattle.nodes.specs.Fields.{is_node}
use Rattle.growth.specs.Clearing.{cleared, first_link, opened_below}
use Rattle.growth.proofs.Openings.{opened_all, opened_more, opened_none}
use Rattle.growth.proofs.opening.open.Goals as goal

pub loop-node-init : goal.loop-node-init
loop-node-init g c =
    let laws = g.met.M.NodeRead.laws in
    let m = g.M.NodeRead.nodes c.args.memory.now in (
      laws.still_always c.args.memory.now c.size-size.new.self c.size-size.ensures.still,
      laws.still_nodes c.args.memory.now c.size-size.new.self c.size-size.ensures.still ∙ opened_none m,
    )

pub loop-node-preserved : goal.loop-node-preserved
loop-node-preserved g c =
    let laws = g.met.M.NodeRead.laws in
    let m = g.M.NodeRead.nodes c.args.memory.now in
    let n = c.loop-node.node in
    let same : g.M.NodeRead.nodes c.loop-node.memory ≡ opened_below m n = c.loop-node.invariant.1 in
    let there : is_node (g.M.NodeRead.nodes c.loop-node.memory) n ≡ true =
    lt-ltb n (g.M.NodeRead.nodes c.loop-node.memory).size (let e = ap (λ (x : Nodes). x.size) same in omega (arith, c.loop-node-test.true, c.size-size.ensures.answer)) in
    let link : c.link_of.result ≡ first_link m n = c.link_of.ensures.link m (sym c.size-size.ensures.answer) in
    let done = c.in_ok-clear.ensures.done there (let e = ap (λ (x : Nodes). x.size) same in omega (arith, c.link_of.ensures.below, c.size-size.ensures.answer)) in (
      laws.always_then c.args.memory.now c.loop-node.memory c.clear.new.memory c.loop-node.invariant.0 c.in_ok-clear.ensures.always,
      done.1 ∙ ap (λ (x : Nodes). cleared x n c.link_of.result) same ∙ ap (cleared (opened_below m n) n) link ∙ opened_more m n,
    )

pub returns-clause-opened : goal.returns-clause-opened
returns-clause-opened g c =
    let m = g.M.NodeRead.nodes c.args.memory.now in
    c.loop-node.invariant.1 ∙ opened_all m c.loop-node.node (g.met.M.NodeRead.laws.within c.args.memory.now) (omega (arith, c.loop-node-test.false, c.size-size.ensures.answer))

-- clearing a node is never refused
pub returns-in_err-clear-clause-done : goal.returns-in_err-clear-clause-done
returns-in_err-clear-clause-done g c =
    let m = g.M.NodeRead.nodes c.args.memory.now in
    let n = c.loop-node.node in
    let size = ap (λ (x : Nodes). x.size) c.loop-node.invariant.1 in
    let there : is_node (g.M.NodeRead.nodes c.loop-node.memory) n ≡ true =
    lt-ltb n (g.M.NodeRead.nodes c.loop-node.memory).size (omega (arith, size, c.loop-node-test.true, c.size-size.ensures.answer)) in
    let wrong = (c.in_err-clear.ensures.done there (omega (arith, size, c.link_of.ensures.below, c.size-size.ensures.answer))).0 in
    cc

pub returns-in_err-clear-clause-opened : goal.returns-in_err-clear-clause-opened
returns-in_err-clear-clause-opened g c =
    let m = g.M.NodeRead.nodes c.args.memory.now in
    let n = c.loop-node.node in
    let size = ap (λ (x : Nodes). x.size) c.loop-node.invariant.1 in
    let there : is_node (g.M.NodeRead.nodes c.loop-node.memory) n ≡ true =
    lt-ltb n (g.M.NodeRead.nodes c.loop-node.memory).size (omega (arith, size, c.loop-node-test.true, c.size-size.ensures.answer)) in
    let wrong = (c.in_err-clear.ensures.done there (omega (arith, size, c.link_of.ensures.below, c.size-size.ensures.answer))).0 in
    cc
