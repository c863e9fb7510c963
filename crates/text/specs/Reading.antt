-- A text read word by word.
use Rattle.std.specs.Prelude.{◌≡◌, ℕ, zero, suc, ◌+◌, ◌*◌, ◌^◌, ◌<◌, ◌≤◌, true, false, cond, ◌&&◌, List, [], ◌∷◌, ◌++◌, length, drop, Some, None, Option, ◌==◌, ◌≢◌, nat_le, nat_lt, slice_index, refl}
use Rattle.std.proofs.Common.{sym, ap, ap₂, subst, ◌∙◌, arith}
use Rattle.std.specs.Str.Parse.{digits_value, digits_value_after}
use Rattle.std.specs.Char.{digit_value}
use Rattle.std.proofs.lemmas.Bool.{eq-eqb, ne_eqb, lt-ltb, le-ltb, le-leb, lt-leb, and_left, and_right}
use Rattle.std.proofs.lemmas.List.{at_drop_more, at_drop_all}
use Rattle.text.specs.Words.{hexadecimal, word, further, parts}

-- ---- one word

pub word_long : (w : List ℕ) → 4 < length w → word w ≡ None
unfolding word
word_long w h = ap (λ t. cond t (Some (digits_value 16 w)) None) (and_right (nat_lt 0 (length w)) (nat_le (length w) 4 && hexadecimal w) (and_left (nat_le (length w) 4) (hexadecimal w) (lt-leb (length w) 4 h)))

pub word_empty : (w : List ℕ) → length w ≡ 0 → word w ≡ None
unfolding word
word_empty w e = ap (λ t. cond t (Some (digits_value 16 w)) None) (and_left (nat_lt 0 (length w)) (nat_le (length w) 4 && hexadecimal w) (le-ltb 0 (length w) (omega arith)))

pub word_strange : (w : List ℕ) → hexadecimal w ≡ false → word w ≡ None
unfolding word
word_strange w e = ap (λ t. cond t (Some (digits_value 16 w)) None) (and_right (nat_lt 0 (length w)) (nat_le (length w) 4 && hexadecimal w) (and_right (nat_le (length w) 4) (hexadecimal w) e))

pub word_is : (w : List ℕ) → 0 < length w → length w ≤ 4 → hexadecimal w ≡ true → word w ≡ Some (digits_value 16 w)
unfolding word
word_is w a b e =
    ap (λ t. cond (t && (nat_le (length w) 4 && hexadecimal w)) (Some (digits_value 16 w)) None) (lt-ltb 0 (length w) a)
    ∙ ap (λ t. cond (t && hexadecimal w) (Some (digits_value 16 w)) None) (le-leb (length w) 4 b)
    ∙ ap (λ t. cond t (Some (digits_value 16 w)) None) e

pub hexadecimal_more : (c : ℕ) (cs : List ℕ) → digit_value c < 16 → hexadecimal (c ∷ cs) ≡ hexadecimal cs
unfolding hexadecimal
hexadecimal_more c cs h = ap (λ t. t && hexadecimal cs) (lt-ltb (digit_value c) 16 h)

pub hexadecimal_not : (c : ℕ) (cs : List ℕ) → (digit_value c < 16 → ⊥) → hexadecimal (c ∷ cs) ≡ false
unfolding hexadecimal
hexadecimal_not c cs h = and_left (nat_lt (digit_value c) 16) (hexadecimal cs) (ltb_not (digit_value c) 16 h)
  where
    ltb_not : (a b : ℕ) → (a < b → ⊥) → nat_lt a b ≡ false
    ltb_not a b k = le-ltb a b (omega (arith, k))

pub hexadecimal_none : hexadecimal [] ≡ true
unfolding hexadecimal
hexadecimal_none = refl

-- ---- two colons in a row

-- what stands before the first part put there
abbrev pub moved : List ℕ → Option (List ℕ × List ℕ) → Option (List ℕ × List ℕ)
moved front None = None
moved front (Some p) = Some (front ++ p.0, p.1)

pub moved_none : (o : Option (List ℕ × List ℕ)) → moved [] o ≡ o
moved_none None = refl
moved_none (Some p) = refl

pub parts_here : (c : ℕ) (cs : List ℕ) → c ≡ 58 → slice_index cs 0 ≡ 58 → parts (c ∷ cs) ≡ Some ([], drop 1 cs)
unfolding parts
parts_here c cs e f =
    ap₂ (λ s t. cond (s && t) (Some ([], drop 1 cs)) (further c (parts cs))) (eq-eqb c 58 e) (eq-eqb (slice_index cs 0) 58 f)

pub parts_single : (c : ℕ) (cs : List ℕ) → (c ≢ 58) → parts (c ∷ cs) ≡ further c (parts cs)
unfolding parts
parts_single c cs e =
    ap (λ s. cond (s && slice_index cs 0 == 58) (Some ([], drop 1 cs)) (further c (parts cs))) (ne_eqb c 58 e)

pub parts_colon : (c : ℕ) (cs : List ℕ) → (slice_index cs 0 ≢ 58) → parts (c ∷ cs) ≡ further c (parts cs)
unfolding parts
parts_colon c cs e =
    ap (λ s. cond s (Some ([], drop 1 cs)) (further c (parts cs))) (and_right (c == 58) (slice_index cs 0 == 58) (ne_eqb (slice_index cs 0) 58 e))

pub parts_empty : parts [] ≡ None
unfolding parts
parts_empty = refl

-- ---- the bounds of a word's number

pub below_word : (i n : ℕ) → i < 4 → n < 16 ^ i → n < 4096
below_word zero n h k = omega arith
below_word (suc zero) n h k = omega arith
below_word (suc (suc zero)) n h k = omega arith
below_word (suc (suc (suc zero))) n h k = omega arith
below_word (suc (suc (suc (suc i)))) n h k = omega arith

pub below_more : (i n d : ℕ) → i < 4 → n < 16 ^ i → d < 16 → n * 16 + d < 16 ^ (i + 1)
below_more zero n d h k l = omega arith
below_more (suc zero) n d h k l = omega arith
below_more (suc (suc zero)) n d h k l = omega arith
below_more (suc (suc (suc zero))) n d h k l = omega arith
below_more (suc (suc (suc (suc i)))) n d h k l = omega arith

-- ---- one digit of a word more

pub record Digit (t : List ℕ) (i n : ℕ) : Type 0 where
  pub bound : n < 16 ^ i
  pub number : digits_value_after 16 n (drop i t) ≡ digits_value 16 t
  pub digits : hexadecimal (drop i t) ≡ hexadecimal t

pub digit_more : (t : List ℕ) (i n c d : ℕ) → i < 4 → i < length t → Digit t i n → c ≡ slice_index t i → (digit_value c < 16) × (d ≡ digit_value c) → Digit t (i + 1) (n * 16 + d)
digit_more t i n c d few h s e is =
    let l : digit_value (slice_index t i) < 16 = subst (λ x. digit_value x < 16) e is.0 in
    let same : d ≡ digit_value (slice_index t i) = is.1 ∙ ap digit_value e in
    record {
      bound = below_more i n d few s.bound (omega (arith, is.0, is.1));
      number = ap (λ x. digits_value_after 16 (n * 16 + x) (drop (i + 1) t)) same ∙ sym (at_drop_more (digits_value_after 16 n) t i 0 h) ∙ s.number;
      digits = sym (hexadecimal_more (slice_index t i) (drop (i + 1) t) l) ∙ sym (at_drop_more hexadecimal t i 0 h) ∙ s.digits;
    }

pub digit_strange : (t : List ℕ) (i n c : ℕ) → i < length t → Digit t i n → c ≡ slice_index t i → (digit_value c < 16 → ⊥) → word t ≡ None
digit_strange t i n c h s e no' =
    word_strange t
    (sym s.digits ∙ at_drop_more hexadecimal t i 0 h
    ∙ hexadecimal_not (slice_index t i) (drop (i + 1) t) (λ l. no' (subst (λ x. digit_value x < 16) (sym e) l)))

pub digit_all : (t : List ℕ) (i n : ℕ) → length t ≤ i → 0 < length t → length t ≤ 4 → Digit t i n → word t ≡ Some n
digit_all t i n h some few s =
    word_is t some few (sym s.digits ∙ at_drop_all hexadecimal t i h ∙ hexadecimal_none)
    ∙ ap (λ x. Some x) (sym s.number ∙ at_drop_all (digits_value_after 16 n) t i h)
