use Rattle.std.proofs.Common.{◌≡◌, suc, ◌≤◌, take, true, false, cond, not, ◌&&◌, ◌||◌, eqb, leb, arith, refl, sym, ◌∙◌, le-leb, zero-add}
use Rattle.std.proofs.lemmas.Bool.{eq-eqb, lt-leb, ne_eqb}
use Rattle.std.specs.Option.{option_map, option_to_list}
use Rattle.bits.specs.Order.{begins}
use Rattle.bits.specs.Rows.{read_group}
use Rattle.laws.specs.Counts.{count, missing}
use Rattle.laws.proofs.Plans.{planned}
use Rattle.model.specs.Plans.{offsets}
use Rattle.routes.specs.Meant.{meant}
use Rattle.sheets.proofs.Behind.{begins_next, missing_none, missing_one, count_next, failed, passed, stride_small, told}
use Rattle.sheets.proofs.required.newly_required.Goals.{in-Some, in-None, then-offset-eq0, else-offset-eq0+then-same, else-offset-eq0+else-same, then-offset-prefix+then-not-shared, else-offset-prefix, else-offset-prefix-via-then-offset-prefix+else-not-shared, else-offset-prefix-via-else-offset-prefix, then-same-2, else-same-2}
use Rattle.sheets.proofs.required.newly_required.Goals as goal

pub loop-stride-init : goal.loop-stride-init
unfolding begins
loop-stride-init g c = record { reached = omega arith; few = omega arith; shared = refl; counted = sym (zero-add _) }

pub overflow_add-nodes : goal.overflow_add-nodes
overflow_add-nodes g c =
    let strides = c.strides-stride-items in
    let few = (planned g.A.Address.WIDTH strides.result.now strides.ensures.right).few in
    omega (arith, few, c.loop-stride.invariant.few)

pub overflow_add-offset : goal.overflow_add-offset
overflow_add-offset g c =
    let strides = c.strides-stride-items in
    let few = (planned g.A.Address.WIDTH strides.result.now strides.ensures.right).few in
    omega (arith, few, c.loop-stride.invariant.reached)

pub loop-stride-preserved : goal.loop-stride-preserved
loop-stride-preserved g c =
    let strides = c.strides-stride-items.result.now in
    let bits = g.A.Address.bits in
    let i = c.loop-stride.stride-index in
    let o = c.loop-stride.offset in
    let s = c.from-stride.result in
    let same = c.loop-stride.same in
    let nodes = c.loop-stride.nodes in
    let held = c.match-last.before.1 in
    let a = bits c.args.route.now.prefix.address in
    let b = bits c.match-last.before.0 in
    let len = c.args.route.now.prefix.length in
    let test = missing (option_to_list (option_map (meant bits {G = g.A.Address}) c.args.last.now)) a len in
    let was = c.loop-stride.invariant in
    let small : s ≤ 6 = stride_small g.A.Address.WIDTH strides i s c.strides-stride-items.ensures.right c.loop-stride-test.true c.from-stride.ensures in
    let on_one : test o ≡ (leb o len && not (eqb o 0 || begins (take o a) b && leb o held)) =
    elim c.match-last.branch [
      | in-Some w ↦
          (let last = w.in-Some.last in
          simp (w.in-Some.is, w.before-is) (missing_one a (bits last.prefix.address) last.prefix.length len last.hop o last.sound.0))
      | in-None w ↦ simp (w.in-None.is, w.before-is) (missing_none a len o)
    ] in
    let shared : c.if-offset-eq0.shared ≡ (eqb o 0 || same && leb o held) =
    elim c.if-offset-eq0.branch [
      | then-offset-eq0 w ↦ w.shared-is ∙ simp (eq-eqb o 0 w.if-offset-eq0.true)
      | else-offset-eq0+then-same w ↦ w.shared-is ∙ simp (ne_eqb o 0 w.if-offset-eq0.false, w.if-same.true)
      | else-offset-eq0+else-same w ↦ w.shared-is ∙ simp (ne_eqb o 0 w.if-offset-eq0.false, w.if-same.false)
    ] in
    let passes : test o ≡ (leb o len && not c.if-offset-eq0.shared) =
    told (test o) (leb o len) (eqb o 0) (begins (take o a) b) same (leb o held) c.if-offset-eq0.shared on_one was.shared shared in
    let next : c.if-offset-prefix.nodes ≡ cond (test o) (suc nodes) nodes =
    elim c.if-offset-prefix.branch [
      | then-offset-prefix+then-not-shared w ↦
          (let counts : (leb o len && not c.if-offset-eq0.shared) ≡ true = simp (le-leb o len w.if-offset-prefix.true, w.if-not-shared.true) in
          passed (test o) nodes c.if-offset-prefix.nodes w.nodes-is (passes ∙ counts))
      | else-offset-prefix w ↦
          (let skips : (leb o len && not c.if-offset-eq0.shared) ≡ false =
          elim w.else-offset-prefix.branch [
            | else-offset-prefix-via-then-offset-prefix+else-not-shared v ↦ simp (le-leb o len v.if-offset-prefix.true, v.if-not-shared.false)
            | else-offset-prefix-via-else-offset-prefix v ↦ simp (lt-leb o len v.if-offset-prefix.false)
          ] in
          failed (test o) nodes c.if-offset-prefix.nodes w.nodes-is (passes ∙ skips))
    ] in
    let groups : c.if-same-2.same ≡ (same && eqb (read_group b o s) (read_group a o s)) =
    elim c.if-same-2.branch [
      | then-same-2 w ↦ w.same-is ∙ simp (w.group.ensures, w.group-then-same-2.ensures, w.if-same-2.true)
      | else-same-2 w ↦ w.same-is ∙ simp w.if-same-2.false
    ] in
    let long = g.met.A.Address.long in
    record {
      reached = omega (arith, was.reached, small);
      few = elim c.if-offset-prefix.branch [
        | then-offset-prefix+then-not-shared w ↦ omega (arith, was.few, w.nodes-is)
        | else-offset-prefix w ↦ omega (arith, was.few, w.nodes-is)
      ];
      shared =
          begins_next a b o s same c.if-same-2.same
          (long c.args.route.now.prefix.address ∙ sym (long c.match-last.before.0)) small was.shared groups;
      counted =
          count_next test strides i o s nodes c.if-offset-prefix.nodes (count test (offsets strides)) c.loop-stride-test.true c.from-stride.ensures next
          was.counted;
    }
