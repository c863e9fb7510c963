use Rattle.std.proofs.Common.{◌≡◌, ◌+◌, ◌-◌, ◌*◌, [], ◌∷◌, ◌++◌, length, take, drop, decimal, slice_index, sym, ap, ◌∙◌, subst, arith}
use Rattle.std.proofs.lemmas.List.{take_more, take_rest, get_or-drop}
use Rattle.text.specs.Numbers.{Extends}
use Rattle.text.specs.Longest.{decimal_first, decimal_more}
use Rattle.text.proofs.number.read_number.Goals as goal

pub loop-more-init : goal.loop-more-init
loop-more-init c =
    let xs = c.args.text.now in (
      omega arith,
      take_more xs 0 0 (omega arith) ∙ decimal_first (slice_index xs 0) (omega arith, omega arith) ∙ ap decimal (sym c.from-number.ensures),
    )

pub loop-more-preserved : goal.loop-more-preserved
loop-more-preserved c =
    let xs = c.args.text.now in
    let n = c.loop-more.number in
    let end = 1 + c.loop-more.more in
    let here : slice_index (take (length xs - 1) (drop 1 xs)) c.loop-more.more ≡ slice_index xs end =
    ap (λ r. slice_index r c.loop-more.more) (take_rest xs 1) ∙ get_or-drop 1 xs c.loop-more.more 0 in
    let h : Extends c.args.limit n (slice_index xs end) = subst (Extends c.args.limit n) here (c.extends.ensures.0 c.if-not-extends.false) in (
      omega (arith, h.2),
      ap (λ i. take i xs) (omega arith)
          ∙ take_more xs end 0 (omega arith)
          ∙ ap (λ p. p ++ (slice_index xs end ∷ [])) c.loop-more.invariant.1
          ∙ sym (decimal_more n (slice_index xs end) h.0 h.1 (omega arith))
          ∙ ap (λ d. decimal (n * 10 + d)) (ap (λ x. x - 48) (sym here) ∙ sym c.from.ensures),
    )
