-- What is written of a group reads back as the group.
use Rattle.std.specs.Prelude.{◌≡◌, ℕ, zero, suc, ◌/◌, ◌%◌, ◌^◌, ◌<◌, ◌≤◌, true, List, [], ◌∷◌, ◌++◌, length, Some}
use Rattle.std.proofs.Common.{ap, subst, ◌∙◌, arith, length-append}
use Rattle.std.specs.Str.Parse.{AllDigits, digits_value}
use Rattle.std.specs.Char.{digit_value, digit_char}
use Rattle.std.proofs.lemmas.Str.{digit_value-digit_char}
use Rattle.std.proofs.lemmas.Int.Digits.{digits_value_push, digits_push}
use Rattle.text.specs.Colons.{hex}
use Rattle.text.specs.Words.{hexadecimal, word}
use Rattle.text.specs.Hexadecimal.{hex_by_steps}
use Rattle.text.specs.Reading.{word_is, hexadecimal_more, hexadecimal_none}
use Rattle.text.specs.WordLists.{Plain}

-- the digits of a number
record Spelt (n : ℕ) (ds : List ℕ) : Type 0 where
  each : AllDigits 16 ds
  number : digits_value 16 ds ≡ n
  some : 0 < length ds
  few : (j : ℕ) → 0 < j → n < 16 ^ j → length ds ≤ j

one : (n : ℕ) → n < 16 → Spelt n (digit_char n ∷ [])
one n h =
    let e = digit_value-digit_char n (omega arith) in
    record { each = (omega (arith, e), tt); number = omega (arith, e); some = omega arith; few = λ j a b. omega arith }

longer : (n : ℕ) (ds : List ℕ) → 16 ≤ n → ((j : ℕ) → 0 < j → n / 16 < 16 ^ j → length ds ≤ j) → (j : ℕ) → 0 < j → n < 16 ^ j → length (ds ++ (digit_char (n % 16) ∷ [])) ≤ j
longer n ds l h zero a b = absurd (omega arith)
longer n ds l h (suc zero) a b = absurd (omega arith)
longer n ds l h (suc (suc j)) a b = omega (arith, length-append ds (digit_char (n % 16) ∷ []), h (suc j) (omega arith) (omega arith))

more : (n : ℕ) (ds : List ℕ) → 16 ≤ n → Spelt (n / 16) ds → Spelt n (ds ++ (digit_char (n % 16) ∷ []))
more n ds l s =
    let e = digit_value-digit_char (n % 16) (omega arith) in
    let q = length-append ds (digit_char (n % 16) ∷ []) in
    record {
      each = digits_push 16 ds (digit_char (n % 16)) s.each (omega (arith, e));
      number = digits_value_push 16 ds (digit_char (n % 16)) ∙ omega (arith, e, s.number);
      some = omega arith;
      few = longer n ds l s.few;
    }

spelt : (n : ℕ) → n < 2 ^ 16 → Spelt n (hex n)
spelt n h = hex_by_steps Spelt one more n h

hexadecimal_from : (ds : List ℕ) → AllDigits 16 ds → hexadecimal ds ≡ true
hexadecimal_from [] h = hexadecimal_none
hexadecimal_from (c ∷ cs) h = hexadecimal_more c cs h.0 ∙ hexadecimal_from cs h.1

plain_from : (ds : List ℕ) → AllDigits 16 ds → Plain ds
plain_from [] h = tt
plain_from (c ∷ cs) h = ((λ e. let k : digit_value 58 < 16 = subst (λ x. digit_value x < 16) e h.0 in omega arith), plain_from cs h.1)

pub hex_some : (n : ℕ) → n < 2 ^ 16 → 0 < length (hex n)
hex_some n h = (spelt n h).some

pub hex_plain : (n : ℕ) → n < 2 ^ 16 → Plain (hex n)
hex_plain n h = plain_from (hex n) (spelt n h).each

pub word_hex : (n : ℕ) → n < 2 ^ 16 → word (hex n) ≡ Some n
word_hex n h =
    let s = spelt n h in
    word_is (hex n) s.some (s.few 4 (omega arith) (omega arith)) (hexadecimal_from (hex n) s.each) ∙ ap (λ x. Some x) s.number
