use Rattle.std.proofs.Common.{◌≡◌, ℕ, ◌<◌, ◌≤◌, List, length, get_or, subst, rules, arith}
use Rattle.descent.proofs.Passing.{hop_there, no_hop_there}
use Rattle.descent.proofs.trails.hop_held.Goals as goal

pub returns-in-Some-clause-held : goal.returns-in-Some-clause-held
returns-in-Some-clause-held g c way is size some =
    let N = g.M.NodeRead.nodes c.args.memory.now in
    let there : c.args.indexes < length c.args.nodes.now = search rules in
    let last : c.in-Some.node.now ≡ get_or c.args.nodes.now c.args.indexes c.in-Some.node.now = search rules in
    hop_there N way c.args.position c.in-Some.node.now c.hop_at.result
    (subst (λ (ns : List ℕ). length way < length ns) is (omega arith))
    (subst (λ (ns : List ℕ). c.in-Some.node.now ≡ get_or ns (length way) c.in-Some.node.now) is (subst (λ k. c.in-Some.node.now ≡ get_or c.args.nodes.now k c.in-Some.node.now) size last))
    (c.hop_at.ensures.held some)

pub returns-in-None-clause-held : goal.returns-in-None-clause-held
returns-in-None-clause-held g c way is size some =
    let none : length c.args.nodes.now ≤ c.args.indexes = search rules in
    no_hop_there (g.M.NodeRead.nodes c.args.memory.now) way c.args.position (subst (λ (ns : List ℕ). length ns ≤ length way) is (omega arith))
