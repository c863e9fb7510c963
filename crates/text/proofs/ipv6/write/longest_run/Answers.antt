use Rattle.std.proofs.Common.{◌≡◌, ℕ, ◌+◌, ◌-◌, ◌≤◌, Bool, true, false, cond, nat_le, length, drop, sym, refl, ap, subst, arith}
use Rattle.std.specs.declared.ops.Range.{Range}
use Rattle.text.specs.Colons.{zeros}
use Rattle.text.specs.Runs.{Seen, seen_none, run_more, run_end, seen_more}
use Rattle.text.proofs.ipv6.write.longest_run.Goals as goal
use Rattle.text.proofs.ipv6.write.longest_run.Goals.{then-all-start-ne0, else-all-start-ne0}

pub loop-start-init : goal.loop-start-init
loop-start-init c =
    let gs = c.args.all.now in
    let none : length gs - length gs ≡ 0 = omega arith in (
      omega arith,
      omega arith,
      omega arith,
      subst (λ n. Seen gs (length gs) n (length gs) n) (sym none) (seen_none gs (length gs) refl),
    )

-- one of two runs
picked : (t : Bool) (a b r : Range ℕ) → a.start ≤ a.end → b.start ≤ b.end → r ≡ cond t a b
    → (r.start ≤ r.end) × (r.start ≡ cond t a.start b.start) × (r.end - r.start ≡ cond t (a.end - a.start) (b.end - b.start))
picked true a b r h k e = (subst (λ x. x.start ≤ x.end) (sym e) h, ap (λ x. x.start) e, ap (λ x. x.end - x.start) e)
picked false a b r h k e = (subst (λ x. x.start ≤ x.end) (sym e) k, ap (λ x. x.start) e, ap (λ x. x.end - x.start) e)

pub loop-start-preserved : goal.loop-start-preserved
loop-start-preserved c =
    let gs = c.args.all.now in
    let i = c.loop-start.start in
    let end = c.if-all-start-ne0.end in
    let best = c.loop-start.best in
    let seen = c.loop-start.invariant.3 in
    let at : i ≡ i - 1 + 1 = omega arith in
    let inside : i ≤ length gs = omega arith in
    let is : (end - (i - 1) ≡ zeros (drop (i - 1) gs)) × (i - 1 + (end - (i - 1)) ≤ length gs) =
    elim c.if-all-start-ne0.branch [
      | then-all-start-ne0 w ↦ run_end gs (i - 1) i _ _ _ at inside seen _ w.if-all-start-ne0.true (omega (arith, w.end-is))
      | else-all-start-ne0 w ↦ run_more gs (i - 1) i _ _ _ at inside seen _ w.if-all-start-ne0.false (omega (arith, w.end-is))
    ] in
    let ends : (i - 1 ≤ end) × (end ≤ length gs) =
    elim c.if-all-start-ne0.branch [
      | then-all-start-ne0 w ↦ (omega (arith, w.end-is), omega (arith, w.end-is))
      | else-all-start-ne0 w ↦ (omega (arith, w.end-is), omega (arith, w.end-is))
    ] in
    let pick = picked (nat_le (best.end - best.start) (end - (i - 1))) (record { start = i - 1; end = end }) best c.longer_run-best.result ends.0 (omega arith) c.longer_run-best.ensures in
    (ends.0, ends.1, pick.0, seen_more gs (i - 1) i _ _ _ at inside seen _ is _ _ pick.1 pick.2)
