use Rattle.std.proofs.Common.{◌+◌, ◌-◌, length, take, drop, sym, ap, ◌∙◌, subst, arith}
use Rattle.std.proofs.lemmas.List.{take_rest, length-drop}
use Rattle.std.proofs.lemmas.Result.{err_from_is_err_and}
use Rattle.text.specs.Words.{side, Beyond}
use Rattle.text.specs.Addresses.{filled_both, filled_right}
use Rattle.text.proofs.Further.{behind_ok, behind_err}
use Rattle.text.proofs.ipv6.read.read_parted.Goals as goal

pub returns-in_err-right : goal.returns-in_err-right
returns-in_err-right c =
    let p = err_from_is_err_and c.from_residual-in_err-right.result c.from_residual-in_err-right.ensures.1 in
    let t = c.args.text.now in
    let at = c.args.place in
    let left = c.in_ok-left.left in
    let right = behind_err (at + 2) _ _ c.read_side-2.result c.in_err-right.field-0.0 c.read_side-2.ensures c.in_err-right.ensures in
    let l = length-drop (at + 2) t in
    let q = ap length (take_rest t (at + 2)) in
    rw (p.1, p.2) (
      omega (arith, right.1.0, right.2, c.requires),
      filled_right (side (take at t)) (side (drop (at + 2) t)) left.count left.number
          c.in_ok-left.ensures.0 c.in_ok-left.ensures.1 (subst (λ r. Beyond (7 - left.count) (side r)) (take_rest t (at + 2)) right.1.1),
    )

pub returns : goal.returns
returns c =
    let t = c.args.text.now in
    let at = c.args.place in
    let left = c.in_ok-left.left in
    let right = c.in_ok-right.right in
    let is = behind_ok (at + 2) _ _ c.read_side-2.result right c.read_side-2.ensures c.in_ok-right.ensures in
    filled_both (side (take at t)) (side (drop (at + 2) t)) left.count right.count left.number right.number
    c.from.result.high c.from.result.low
    c.in_ok-left.ensures.0
    (ap side (sym (take_rest t (at + 2))) ∙ is.0)
    (omega (arith, c.in_ok-left.ensures.1, is.1))
    right.small
    (c.from.ensures ∙ c.spread.ensures)
