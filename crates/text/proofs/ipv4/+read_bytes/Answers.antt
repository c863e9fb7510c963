use Rattle.std.proofs.Common.{◌≡◌, ℕ, suc, ◌+◌, ◌-◌, ◌*◌, ◌%◌, ◌^◌, ◌<◌, length, take, drop, sym, ap, ◌∙◌, subst, ap₂, arith}
use Rattle.std.proofs.lemmas.Result.{err_from_is_err_and}
use Rattle.text.specs.Dotted.{with_dots}
use Rattle.text.specs.Stuck.{Stuck}
use Rattle.std.proofs.lemmas.List.{take_rest}
use Rattle.text.specs.Longest.{no_number}
use Rattle.text.specs.Dots.{weight, weight_le, shifted, joined_lt, first_byte, last_is, behind_last, no_dot, rest_is, rest_stuck}
use Rattle.text.proofs.Further.{behind_ok, behind_err}
use Rattle.text.proofs.ipv4.+read_bytes.Goals as goal
use Rattle.text.proofs.ipv4.+read_bytes.Goals.{then-end-text-2-via-then-end-text-2, then-end-text-2-via-else-end-text-2+then-text-end-ne46}

pub returns-in_default : goal.returns-in_default
returns-in_default t c = no_number (with_dots c.args.dots) (first_byte c.args.dots) c.args.text.now c.in_default.ensures

pub returns-then-end-text : goal.returns-then-end-text
returns-then-end-text t c =
    subst (λ k. Stuck (with_dots k) c.args.text.now c.in-Some.end) (sym c.if-dots-eq0.true)
    (behind_last c.in-Some.ensures c.if-end-text.true)

pub returns-then-dots-eq0 : goal.returns-then-dots-eq0
returns-then-dots-eq0 t c =
    let l = c.in-Some.ensures in
    subst (λ k. (c.args.text.now ≡ with_dots k c.in-Some.number) × (c.in-Some.number < 2 ^ (8 * suc k))) (sym c.if-dots-eq0.true)
    (last_is l c.if-end-text.false, omega (arith, l.small))

pub returns-then-end-text-2 : goal.returns-then-end-text-2
returns-then-end-text-2 t c =
    let l = c.in-Some.ensures in
    let k : c.args.dots ≡ suc (c.args.dots - 1) = omega arith in
    subst (λ i. Stuck (with_dots i) c.args.text.now c.in-Some.end) (sym k)
    (no_dot l (c.args.dots - 1)
    (λ h e.
    elim c.then-end-text-2.branch [
      | then-end-text-2-via-then-end-text-2 w ↦ omega (arith, w.if-end-text-2.true)
      | then-end-text-2-via-else-end-text-2+then-text-end-ne46 w ↦ w.if-text-end-ne46.true e
    ]))

-- what stands behind the dot
module _ (t : ℕ) (c : goal.In_ok-rest t) where
  rest_read : (take (length c.args.text.now - (c.in-Some.end + 1)) (drop (c.in-Some.end + 1) c.args.text.now) ≡ with_dots (c.args.dots - 1) c.in_ok-rest.rest) × (c.in_ok-rest.rest < 2 ^ (8 * suc (c.args.dots - 1)))
  rest_read = behind_ok (c.in-Some.end + 1) _ _ c.read_bytes.result c.in_ok-rest.rest c.read_bytes.ensures c.in_ok-rest.ensures

  sum : (c.in-Some.number * 2 ^ (8 * c.args.dots)) % 4294967296 + c.in_ok-rest.rest ≡ c.in-Some.number * weight (c.args.dots - 1) + c.in_ok-rest.rest
  sum =
      let l = c.in-Some.ensures in
      let d : c.args.dots ≡ suc (c.args.dots - 1) = omega arith in
      ap (λ x. x + c.in_ok-rest.rest)
      (ap (λ i. (c.in-Some.number * 2 ^ (8 * i)) % 4294967296) d ∙ shifted (c.args.dots - 1) c.in-Some.number (omega arith) l.small)

  small : c.in-Some.number * weight (c.args.dots - 1) + c.in_ok-rest.rest < weight c.args.dots
  small =
      let l = c.in-Some.ensures in
      let d : c.args.dots ≡ suc (c.args.dots - 1) = omega arith in
      subst (λ i. c.in-Some.number * weight (c.args.dots - 1) + c.in_ok-rest.rest < weight i) (sym d)
      (joined_lt (c.args.dots - 1) c.in-Some.number c.in_ok-rest.rest l.small rest_read.1)

pub overflow_add-result : goal.overflow_add-result
overflow_add-result t c = omega (arith, sum t c, small t c, weight_le c.args.dots c.requires)

pub returns : goal.returns
returns t c =
    let l = c.in-Some.ensures in
    let xs = c.args.text.now in
    let end = c.in-Some.end in
    let k = c.args.dots - 1 in
    let d : c.args.dots ≡ suc k = omega arith in (
      rest_is l (omega (arith, l.within)) c.if-text-end-ne46.false k c.in_ok-rest.rest
          (sym (take_rest xs (end + 1)) ∙ (rest_read t c).0) (rest_read t c).1
          ∙ ap₂ (λ i x. with_dots i x) (sym d) (sym (sum t c)),
      subst (λ x. x < weight c.args.dots) (sym (sum t c)) (small t c),
    )

pub returns-in_err-rest : goal.returns-in_err-rest
returns-in_err-rest t c =
    let p = err_from_is_err_and c.from_residual.result c.from_residual.ensures.1 in
    let q = behind_err (c.in-Some.end + 1) _ _ c.read_bytes.result c.in_err-rest.field-0.0 c.read_bytes.ensures c.in_err-rest.ensures in
    let l = c.in-Some.ensures in
    let xs = c.args.text.now in
    let end = c.in-Some.end in
    let k = c.args.dots - 1 in
    let d : c.args.dots ≡ suc k = omega arith in
    rw (p.1, p.2)
    (subst (λ i. Stuck (with_dots i) xs c.in_err-rest.field-0.0.place) (sym d)
    (subst (Stuck (with_dots (suc k)) xs) (sym q.2)
    (rest_stuck l (omega (arith, l.within)) c.if-text-end-ne46.false k q.0.place
    (subst (λ s. Stuck (with_dots k) s q.0.place) (take_rest xs (end + 1)) q.1))))
