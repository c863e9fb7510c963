use Rattle.std.proofs.Common.{◌≡◌, ◌≤◌, Err, rules, length, take, drop}
use Rattle.descent.specs.Meant.{held_route}
use Rattle.descent.proofs.Ways.{found_below, none_below, refused_below, small_row, stopped}
use Rattle.descent.proofs.ascending.+above.Goals as goal

pub follow_above-requires-clause-bits : goal.follow_above-requires-clause-bits
follow_above-requires-clause-bits g t c = small_row c.in_ok-way.ensures.enters

pub follow_above-requires-in-None-clause-bits : goal.follow_above-requires-in-None-clause-bits
follow_above-requires-in-None-clause-bits g t c = small_row c.in_ok-way.ensures.enters

pub returns-then-way-eq0-clause-above : goal.returns-then-way-eq0-clause-above
returns-then-way-eq0-clause-above g t c =
    let a = g.A.Address.bits c.args.path.address in
    let to : c.args.length ≤ length a = rw (g.met.A.Address.long c.args.path.address) c.requires.length in
    let leads = c.in_ok-way.ensures.enters in
    let same = g.met.M.NodeRead.laws.still_nodes c.args.memory.now c.enter.new.memory c.enter.ensures.still in
    stopped c.in-Some.ensures.cases.0 a c.args.path.length c.args.length c.requires.within to leads (g.M.NodeRead.nodes c.enter.new.memory) same
    c.if-way-eq0.true
    (c.follow_above.ensures.follows (take c.in-Some.stride.now (drop c.args.path.length (take c.args.length a))) leads.size leads.spells)

pub returns-in_err-found-clause-above : goal.returns-in_err-found-clause-above
returns-in_err-found-clause-above g t c =
    let a = g.A.Address.bits c.args.path.address in
    let to : c.args.length ≤ length a = rw (g.met.A.Address.long c.args.path.address) c.requires.length in
    let same = g.met.M.NodeRead.laws.still_nodes c.args.memory.now c.enter.new.memory c.enter.ensures.still in
    let is : c.from_residual-in_err-found.result ≡ Err c.in_err-found.field-0.0 = search rules in
    refused_below c.in-Some.ensures.cases.0 a c.args.path.length c.args.length c.requires.within to c.in_ok-way.ensures.enters
    (held_route {G = g.A.Address} g.A.Address.bits) (g.M.NodeRead.nodes c.enter.new.memory) same c.if-way-eq0.false is
    c.in_err-found.ensures.above

pub returns-in_default-2-clause-above : goal.returns-in_default-2-clause-above
returns-in_default-2-clause-above g t c =
    let a = g.A.Address.bits c.args.path.address in
    let to : c.args.length ≤ length a = rw (g.met.A.Address.long c.args.path.address) c.requires.length in
    let same = g.met.M.NodeRead.laws.still_nodes c.args.memory.now c.enter.new.memory c.enter.ensures.still in
    found_below c.in-Some.ensures.cases.0 a c.args.path.length c.args.length c.requires.within to c.in_ok-way.ensures.enters
    (held_route {G = g.A.Address} g.A.Address.bits) (g.M.NodeRead.nodes c.enter.new.memory) same c.if-way-eq0.false c.in_default-2.not-None
    c.in_ok-found.ensures.above

pub returns-in_default-2-clause-still : goal.returns-in_default-2-clause-still
returns-in_default-2-clause-still g t c =
    g.met.M.NodeRead.laws.still_then c.args.memory.now c.enter.new.memory c.above.new.memory c.enter.ensures.still c.above.ensures.still

pub returns-in-None-clause-above : goal.returns-in-None-clause-above
returns-in-None-clause-above g t c =
    let a = g.A.Address.bits c.args.path.address in
    let to : c.args.length ≤ length a = rw (g.met.A.Address.long c.args.path.address) c.requires.length in
    let leads = c.in_ok-way.ensures.enters in
    let laws = g.met.M.NodeRead.laws in
    let kept = laws.still_then c.args.memory.now c.enter.new.memory c.above.new.memory c.enter.ensures.still c.above.ensures.still in
    none_below c.in-Some.ensures.cases.0 a c.args.path.length c.args.length c.requires.within to leads
    (held_route {G = g.A.Address} g.A.Address.bits) (g.M.NodeRead.nodes c.enter.new.memory)
    (laws.still_nodes c.args.memory.now c.enter.new.memory c.enter.ensures.still) c.if-way-eq0.false c.in-None.is c.in_ok-found.ensures.above
    (g.M.NodeRead.nodes c.above.new.memory)
    (laws.still_nodes c.args.memory.now c.above.new.memory kept)
    (c.follow_above-in-None.ensures.follows (take c.in-Some.stride.now (drop c.args.path.length (take c.args.length a))) leads.size leads.spells)
