-- What is written of a number in hexadecimal, digit by digit.
use Rattle.std.specs.Prelude.{◌≡◌, ℕ, zero, suc, ◌/◌, ◌%◌, ◌^◌, ◌<◌, ◌≤◌, false, cond, List, [], ◌∷◌, ◌++◌, refl}
use Rattle.std.proofs.Common.{sym, ap, subst, ◌∙◌, ⊎_elim, append_assoc, arith}
use Rattle.std.proofs.lemmas.Bool.{eq-eqb, ne_eqb, cases_lt}
use Rattle.std.specs.Fmt.{digits_onto, digits}
use Rattle.std.specs.Char.{digit_char}
use Rattle.text.specs.Colons.{hex}

abbrev spell : ℕ → ℕ → List ℕ → List ℕ
spell k n acc = digits_onto k 16 false n acc

abbrev low : ℕ → ℕ
low n = digit_char (n % 16)

last : (k n : ℕ) (acc : List ℕ) → n < 16 → spell (suc k) n acc ≡ low n ∷ acc
last k n acc h = ap (λ t. cond t (low n ∷ acc) (spell k (n / 16) (low n ∷ acc))) (eq-eqb (n / 16) 0 (omega arith))

next : (k n : ℕ) (acc : List ℕ) → 16 ≤ n → spell (suc k) n acc ≡ spell k (n / 16) (low n ∷ acc)
next k n acc h = ap (λ t. cond t (low n ∷ acc) (spell k (n / 16) (low n ∷ acc))) (ne_eqb (n / 16) 0 (λ e. omega arith))

onto : (k n : ℕ) (acc : List ℕ) → spell k n acc ≡ spell k n [] ++ acc
onto zero n acc = refl
onto (suc k) n acc = ⊎_elim
    (λ l. last k n acc l ∙ ap (λ x. x ++ acc) (sym (last k n [] l)))
    (λ l. next k n acc l ∙ onto k (n / 16) (low n ∷ acc) ∙ sym (append_assoc (spell k (n / 16) []) (low n ∷ []) acc) ∙ ap (λ x. x ++ acc) (sym (next k n [] l ∙ onto k (n / 16) (low n ∷ []))))
    (cases_lt n 16)

turns : (j k n : ℕ) (acc : List ℕ) → n < 2 ^ j → n < 2 ^ k → spell (suc j) n acc ≡ spell (suc k) n acc
turns zero k n acc p q = last zero n acc (omega arith) ∙ sym (last k n acc (omega arith))
turns (suc j) zero n acc p q = last (suc j) n acc (omega arith) ∙ sym (last zero n acc (omega arith))
turns (suc j) (suc k) n acc p q = ⊎_elim
    (λ l. last (suc j) n acc l ∙ sym (last (suc k) n acc l))
    (λ l. next (suc j) n acc l ∙ turns j k (n / 16) (low n ∷ acc) (omega arith) (omega arith) ∙ sym (next (suc k) n acc l))
    (cases_lt n 16)

pub hex_one : (n : ℕ) → n < 16 → hex n ≡ digit_char n ∷ []
unfolding hex digits
hex_one n h = last 63 n [] h ∙ ap (λ d. digit_char d ∷ []) (omega arith)

pub hex_step : (n : ℕ) → 16 ≤ n → n < 2 ^ 16 → hex n ≡ hex (n / 16) ++ (digit_char (n % 16) ∷ [])
unfolding hex digits
hex_step n h small = next 63 n [] h ∙ turns 62 63 (n / 16) (low n ∷ []) (omega arith) (omega arith) ∙ onto 64 (n / 16) (low n ∷ [])

-- induction on the digits of a number: one digit, and then one more at the end
module _ (P : ℕ → List ℕ → Type 0) (one : (n : ℕ) → n < 16 → P n (digit_char n ∷ [])) (more : (n : ℕ) (ds : List ℕ) → 16 ≤ n → P (n / 16) ds → P n (ds ++ (digit_char (n % 16) ∷ []))) where
  by : (k n : ℕ) → n ≤ k → n < 2 ^ 16 → P n (hex n)
  by zero n le small = subst (P n) (sym (hex_one n (omega arith))) (one n (omega arith))
  by (suc k) n le small = ⊎_elim
      (λ l. subst (P n) (sym (hex_one n l)) (one n l))
      (λ l. subst (P n) (sym (hex_step n l small)) (more n (hex (n / 16)) l (by k (n / 16) (omega arith) (omega arith))))
      (cases_lt n 16)

  pub hex_by_steps : (n : ℕ) → n < 2 ^ 16 → P n (hex n)
  hex_by_steps n = by n n (omega arith)
