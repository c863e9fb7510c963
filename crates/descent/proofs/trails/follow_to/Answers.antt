use Rattle.std.proofs.Common.{◌≡◌, ℕ, ◌≤◌, true, false, Err, List, length, Ok, sym, ap, ◌∙◌, subst, rules, arith}
use Rattle.std.proofs.lemmas.List.{length-take-le}
use Rattle.model.specs.Nodes.{Nodes}
use Rattle.plan.specs.Strides.{strides_of}
use Rattle.routes.specs.Meant.{prefix_bits}
use Rattle.walks.specs.Trails.{passed}
use Rattle.walks.proofs.Trails.{trails_shown}
use Rattle.descent.specs.Passing.{HopThere, readable}
use Rattle.descent.proofs.Trailed.{trail_found, trail_refused}
use Rattle.descent.proofs.trails.follow_to.Goals as goal

pub returns-clause-any : goal.returns-clause-any
returns-clause-any g c =
    let N = g.M.NodeRead.nodes c.args.memory.now in
    let W = g.A.Address.WIDTH in
    let prefix = c.args.prefix.prefix in
    let bits = g.A.Address.bits prefix.address in
    let p = prefix_bits g.A.Address.bits prefix in
    let is = c.find_spot-offset.new.way.items in
    let long = g.met.A.Address.long prefix.address in
    let size = length-take-le prefix.length bits c.args.prefix.sound.0 in
    let short : length p ≤ W = omega (arith, c.args.prefix.sound.0) in
    let way : c.as_slice-way.result.now ≡ is = c.as_slice-way.ensures.value in
    let reads : readable N 0 is ≡ true = subst (λ (xs : List ℕ). readable N 0 xs ≡ true) way c.in_ok-pass.ensures.passes.0 in
    let through : c.pass.new.nodes.items ≡ passed N 0 is = c.in_ok-pass.ensures.passes.1 ∙ ap (passed N 0) way in
    let same : g.M.NodeRead.nodes c.pass.new.memory ≡ N = g.met.M.NodeRead.laws.still_nodes c.args.memory.now c.pass.new.memory c.pass.ensures.still in
    let position = c.position_at-trail.result in
    let held = subst (λ (m : Nodes). c.as_slice.result.now ≡ passed m 0 is → HopThere m is position (Ok c.in_ok-trail.field-0)) same
    (λ e. c.in_ok-trail.ensures.held is e (ap length way) c.position_at-trail.ensures.within.0) (c.as_slice.ensures.value ∙ through) in
    trail_found W N (strides_of c.args.plan.now) p c.args.plan.now.right short c.pass.new.nodes.items is position c.in_ok-trail.field-0
    c.find_spot-offset.ensures.indexes through (c.position_at-trail.ensures.value ∙ sym c.find_spot-offset.ensures.offset.position) reads held.0 held.1

pub returns-in_err-pass-clause-any : goal.returns-in_err-pass-clause-any
returns-in_err-pass-clause-any g c =
    let N = g.M.NodeRead.nodes c.args.memory.now in
    let W = g.A.Address.WIDTH in
    let prefix = c.args.prefix.prefix in
    let bits = g.A.Address.bits prefix.address in
    let p = prefix_bits g.A.Address.bits prefix in
    let is = c.find_spot-offset.new.way.items in
    let long = g.met.A.Address.long prefix.address in
    let size = length-take-le prefix.length bits c.args.prefix.sound.0 in
    let short : length p ≤ W = omega (arith, c.args.prefix.sound.0) in
    let way : c.as_slice-way.result.now ≡ is = c.as_slice-way.ensures.value in
    let f = c.in_err-pass.field-0.0 in
    let refused : c.from_residual.result ≡ Err f = search rules in
    let reads : readable N 0 is ≡ false = subst (λ (xs : List ℕ). readable N 0 xs ≡ false) way c.in_err-pass.ensures.passes.0 in
    rw refused (trail_refused W N (strides_of c.args.plan.now) p c.args.plan.now.right short f is
    c.find_spot-offset.ensures.indexes c.in_err-pass.ensures.passes.1 (simp reads))

pub returns-in_err-trail-clause-any : goal.returns-in_err-trail-clause-any
returns-in_err-trail-clause-any g c =
    let N = g.M.NodeRead.nodes c.args.memory.now in
    let W = g.A.Address.WIDTH in
    let prefix = c.args.prefix.prefix in
    let bits = g.A.Address.bits prefix.address in
    let p = prefix_bits g.A.Address.bits prefix in
    let is = c.find_spot-offset.new.way.items in
    let long = g.met.A.Address.long prefix.address in
    let size = length-take-le prefix.length bits c.args.prefix.sound.0 in
    let short : length p ≤ W = omega (arith, c.args.prefix.sound.0) in
    let way : c.as_slice-way.result.now ≡ is = c.as_slice-way.ensures.value in
    let reads : readable N 0 is ≡ true = subst (λ (xs : List ℕ). readable N 0 xs ≡ true) way c.in_ok-pass.ensures.passes.0 in
    let through : c.pass.new.nodes.items ≡ passed N 0 is = c.in_ok-pass.ensures.passes.1 ∙ ap (passed N 0) way in
    let same : g.M.NodeRead.nodes c.pass.new.memory ≡ N = g.met.M.NodeRead.laws.still_nodes c.args.memory.now c.pass.new.memory c.pass.ensures.still in
    let position = c.position_at-trail.result in
    let f = c.in_err-trail.field-0.0 in
    let refused : c.from_residual-in_err-trail.result ≡ Err f = search rules in
    let held = subst (λ (m : Nodes). c.as_slice.result.now ≡ passed m 0 is → HopThere m is position (Err f)) same
    (λ e. c.in_err-trail.ensures.held is e (ap length way) c.position_at-trail.ensures.within.0) (c.as_slice.ensures.value ∙ through) in
    rw refused (trail_refused W N (strides_of c.args.plan.now) p c.args.plan.now.right short f is
    c.find_spot-offset.ensures.indexes held.1 (simp (reads, held.0)))

pub returns-clause-shown : goal.returns-clause-shown
returns-clause-shown g c routes at shows =
    let prefix = c.args.prefix.prefix in
    let size = length-take-le prefix.length (g.A.Address.bits prefix.address) c.args.prefix.sound.0 in
    let long = g.met.A.Address.long prefix.address in
    returns-clause-any g c
    ∙ trails_shown g.A.Address.WIDTH (g.M.NodeRead.nodes c.args.memory.now) (strides_of c.args.plan.now) routes at (prefix_bits g.A.Address.bits prefix)
    (omega (arith, c.args.prefix.sound.0)) shows

pub returns-in_err-pass-clause-shown : goal.returns-in_err-pass-clause-shown
returns-in_err-pass-clause-shown g c routes at shows =
    let prefix = c.args.prefix.prefix in
    let size = length-take-le prefix.length (g.A.Address.bits prefix.address) c.args.prefix.sound.0 in
    let long = g.met.A.Address.long prefix.address in
    returns-in_err-pass-clause-any g c
    ∙ trails_shown g.A.Address.WIDTH (g.M.NodeRead.nodes c.args.memory.now) (strides_of c.args.plan.now) routes at (prefix_bits g.A.Address.bits prefix)
    (omega (arith, c.args.prefix.sound.0)) shows

pub returns-in_err-trail-clause-shown : goal.returns-in_err-trail-clause-shown
returns-in_err-trail-clause-shown g c routes at shows =
    let prefix = c.args.prefix.prefix in
    let size = length-take-le prefix.length (g.A.Address.bits prefix.address) c.args.prefix.sound.0 in
    let long = g.met.A.Address.long prefix.address in
    returns-in_err-trail-clause-any g c
    ∙ trails_shown g.A.Address.WIDTH (g.M.NodeRead.nodes c.args.memory.now) (strides_of c.args.plan.now) routes at (prefix_bits g.A.Address.bits prefix)
    (omega (arith, c.args.prefix.sound.0)) shows
