use Rattle.std.proofs.Common.{◌≡◌, true, Ok, Err, refl, subst, arith}
use Rattle.std.proofs.lemmas.Bool.{both_ways, eq-eqb, lt-ltb, ne_eqb}
use Rattle.laws.proofs.Plans.{planned}
use Rattle.model.specs.Nodes.{Nodes}
use Rattle.nodes.specs.Fields.{is_child, is_node, read_bitmap, read_child}
use Rattle.nodes.proofs.Readings.{granted, refused}
use Rattle.descent.proofs.Going.{going, a_child, at_stride, ends, fits, goes_on, matched}
use Rattle.descent.proofs.walk.walk.Goals as goal

pub loop-stride-init : goal.loop-stride-init
loop-stride-init g c =
    let p = planned g.A.Address.WIDTH c.strides-stride-items.result.now c.strides-stride-items.ensures.right in
    let l = g.met.A.Address.long c.args.address in (
      g.met.M.NodeRead.laws.still_same c.args.memory.now,
      refl,
      going (g.M.NodeRead.nodes c.args.memory.now) c.strides-stride-items.result.now (g.A.Address.bits c.args.address) p.range (omega (arith, p.total)),
    )

pub overflow_add-stride : goal.overflow_add-stride
overflow_add-stride g c =
    omega (arith, fits c.loop-stride.invariant.2 c.loop-stride-test.true c.from-stride.result c.from-stride.ensures c.group-index.result c.group-index.ensures)

pub loop-stride-preserved : goal.loop-stride-preserved
loop-stride-preserved g c =
    let laws = g.met.M.NodeRead.laws in
    let N = g.M.NodeRead.nodes c.args.memory.now in
    let index = c.group-index.result in
    let kept = laws.still_then c.args.memory.now c.loop-stride.memory c.bitmap.new.self c.loop-stride.invariant.0 c.bitmap.ensures.still in
    let before : g.M.NodeRead.nodes c.loop-stride.memory ≡ N = laws.still_nodes c.args.memory.now c.loop-stride.memory c.loop-stride.invariant.0 in
    let after : g.M.NodeRead.nodes c.bitmap.new.self ≡ N = laws.still_nodes c.args.memory.now c.bitmap.new.self kept in
    let bitmap = granted (is_node N c.loop-stride.node) (N.bitmap c.loop-stride.node) c.in_ok-bitmap.bitmap
    (subst (λ (m : Nodes). Ok c.in_ok-bitmap.bitmap ≡ read_bitmap m c.loop-stride.node) before c.in_ok-bitmap.ensures.answer) in
    let child = granted (is_child N c.loop-stride.node index) (N.child c.loop-stride.node index) c.in_ok-child.child
    (subst (λ (m : Nodes). Ok c.in_ok-child.child ≡ read_child m c.loop-stride.node index) after c.in_ok-child.ensures.answer) in
    let going = at_stride c.loop-stride.invariant.2 c.loop-stride-test.true c.from-stride.result c.from-stride.ensures in
    let match = matched c.loop-stride.invariant.2 c.loop-stride-test.true c.from-stride.result c.from-stride.ensures index c.group-index.ensures
    c.in_ok-bitmap.bitmap c.marks_on_the_way-marks.result bitmap.1 c.marks_on_the_way-marks.ensures.deepest in (
      laws.still_then c.args.memory.now c.bitmap.new.self c.child.new.self kept c.child.ensures.still,
      omega (arith, c.loop-stride.invariant.1),
      rw c.latest-last.ensures (goes_on going bitmap.0 c.marks_on_the_way-marks.result match index c.in_ok-child.child c.group-index.ensures child.1 (ne_eqb c.in_ok-child.child 0 c.if-child-eq0.false)),
    )

pub returns-then-child-eq0-clause-walks : goal.returns-then-child-eq0-clause-walks
returns-then-child-eq0-clause-walks g c =
    let laws = g.met.M.NodeRead.laws in
    let N = g.M.NodeRead.nodes c.args.memory.now in
    let index = c.group-index.result in
    let kept = laws.still_then c.args.memory.now c.loop-stride.memory c.bitmap.new.self c.loop-stride.invariant.0 c.bitmap.ensures.still in
    let before : g.M.NodeRead.nodes c.loop-stride.memory ≡ N = laws.still_nodes c.args.memory.now c.loop-stride.memory c.loop-stride.invariant.0 in
    let after : g.M.NodeRead.nodes c.bitmap.new.self ≡ N = laws.still_nodes c.args.memory.now c.bitmap.new.self kept in
    let bitmap = granted (is_node N c.loop-stride.node) (N.bitmap c.loop-stride.node) c.in_ok-bitmap.bitmap
    (subst (λ (m : Nodes). Ok c.in_ok-bitmap.bitmap ≡ read_bitmap m c.loop-stride.node) before c.in_ok-bitmap.ensures.answer) in
    let child = granted (is_child N c.loop-stride.node index) (N.child c.loop-stride.node index) c.in_ok-child.child
    (subst (λ (m : Nodes). Ok c.in_ok-child.child ≡ read_child m c.loop-stride.node index) after c.in_ok-child.ensures.answer) in
    let going = at_stride c.loop-stride.invariant.2 c.loop-stride-test.true c.from-stride.result c.from-stride.ensures in
    let match = matched c.loop-stride.invariant.2 c.loop-stride-test.true c.from-stride.result c.from-stride.ensures index c.group-index.ensures
    c.in_ok-bitmap.bitmap c.marks_on_the_way-marks.result bitmap.1 c.marks_on_the_way-marks.ensures.deepest in
    rw (← c.strides-stride-items.ensures.value, c.latest-last.ensures)
    (ends going bitmap.0 c.marks_on_the_way-marks.result match index c.in_ok-child.child c.group-index.ensures child.1 (eq-eqb c.in_ok-child.child 0 c.if-child-eq0.true))

-- a child of a node that was read is never refused
pub returns-in_err-child-clause-walks : goal.returns-in_err-child-clause-walks
returns-in_err-child-clause-walks g c =
    let laws = g.met.M.NodeRead.laws in
    let N = g.M.NodeRead.nodes c.args.memory.now in
    let index = c.group-index.result in
    let kept = laws.still_then c.args.memory.now c.loop-stride.memory c.bitmap.new.self c.loop-stride.invariant.0 c.bitmap.ensures.still in
    let before : g.M.NodeRead.nodes c.loop-stride.memory ≡ N = laws.still_nodes c.args.memory.now c.loop-stride.memory c.loop-stride.invariant.0 in
    let after : g.M.NodeRead.nodes c.bitmap.new.self ≡ N = laws.still_nodes c.args.memory.now c.bitmap.new.self kept in
    let bitmap = granted (is_node N c.loop-stride.node) (N.bitmap c.loop-stride.node) c.in_ok-bitmap.bitmap
    (subst (λ (m : Nodes). Ok c.in_ok-bitmap.bitmap ≡ read_bitmap m c.loop-stride.node) before c.in_ok-bitmap.ensures.answer) in
    let low = a_child c.loop-stride.invariant.2 c.loop-stride-test.true c.from-stride.result c.from-stride.ensures index c.group-index.ensures in
    let there : is_child N c.loop-stride.node index ≡ true = simp (bitmap.0, lt-ltb index 64 low) in
    let none = refused (is_child N c.loop-stride.node index) (N.child c.loop-stride.node index) c.in_err-child.field-0.0
    (subst (λ (m : Nodes). Err c.in_err-child.field-0.0 ≡ read_child m c.loop-stride.node index) after c.in_err-child.ensures.answer) in
    absurd (both_ways (is_child N c.loop-stride.node index) none.0 there)
