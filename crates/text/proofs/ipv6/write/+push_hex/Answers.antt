use Rattle.std.proofs.Common.{◌/◌, ◌%◌, [], ◌∷◌, ◌++◌, string_bytes, sym, ap, ◌∙◌, append_assoc, arith}
use Rattle.std.specs.Char.{digit_char}
use Rattle.std.proofs.lemmas.Result.{IfOk-weaker}
use Rattle.text.specs.Colons.{hex}
use Rattle.text.specs.Hexadecimal.{hex_one, hex_step}
use Rattle.text.proofs.ipv6.write.+push_hex.Goals as goal
use Rattle.text.proofs.ipv6.write.+push_hex.Goals.{then-group-ge16+in_ok-push_hex, else-group-ge16}

pub returns : goal.returns
returns t c =
    let n = c.args.group in
    let was = string_bytes c.args.out.now in
    IfOk-weaker c.push_digit.result _ _
    (λ x e. elim c.if-group-ge16.branch [
      | then-group-ge16+in_ok-push_hex w ↦
          e
          ∙ ap (λ s. string_bytes s ++ digit_char (n % 16) ∷ []) w.out-is
          ∙ ap (λ b. b ++ digit_char (n % 16) ∷ []) w.in_ok-push_hex.ensures
          ∙ append_assoc was (hex (n / 16)) (digit_char (n % 16) ∷ [])
          ∙ ap (λ b. was ++ b) (sym (hex_step n w.if-group-ge16.true (omega arith)))
      | else-group-ge16 w ↦
          e
          ∙ ap (λ s. string_bytes s ++ digit_char (n % 16) ∷ []) w.out-is
          ∙ ap (λ d. was ++ digit_char d ∷ []) {x = n % 16} {y = n} (omega (arith, w.if-group-ge16.false))
          ∙ ap (λ b. was ++ b) (sym (hex_one n w.if-group-ge16.false))
    ])
    c.push_digit.ensures
