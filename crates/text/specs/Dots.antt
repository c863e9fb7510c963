-- Bytes in decimal with dots between them: how such a text is taken apart, and where reading it stops.
use Rattle.std.specs.Prelude.{◌≡◌, ℕ, zero, suc, ◌+◌, ◌*◌, ◌/◌, ◌%◌, ◌^◌, ◌<◌, ◌≤◌, List, ◌∷◌, ◌++◌, length, take, drop, decimal, ◌≢◌, slice_index}
use Rattle.std.proofs.Common.{sym, ap₂, ◌∙◌, subst, append_assoc, ⊎_elim, arith, mod-lt, mod-eq_of_lt, mul_assoc, div-add-mod', length-drop, take-add, pow_pos, pow_mono, pow-add}
use Rattle.std.proofs.Math.Path.{ap}
use Rattle.std.proofs.Math.Nat.{mul-add-div_right, mul-add-mod_self_right}
use Rattle.std.proofs.Math.Pow.{high}
use Rattle.std.proofs.Math.Arith.{digits_lt}
use Rattle.std.proofs.lemmas.Nat.{shl_whole, mod-pow-add}
use Rattle.std.proofs.lemmas.Bool.{cases_lt}
use Rattle.std.proofs.lemmas.List.{drop_more, drop_all}
use Rattle.std.proofs.lemmas.Fmt.{decimal_injective}
use Rattle.text.specs.Numbers.{Longest}
use Rattle.text.specs.Dotted.{with_dots}
use Rattle.text.specs.Stuck.{Stuck}
use Rattle.text.specs.Longest.{Stops, unique, rem_le, front, rest_stops, next_and, alone, behind, FirstDigit, first_digit}

-- how much the bytes below the first weigh
abbrev pub weight : ℕ → ℕ
weight k = 2 ^ (8 * suc k)

weight_more : (k : ℕ) → weight (suc k) ≡ 256 * weight k
weight_more k = ap (λ i. 2 ^ i) (omega arith) ∙ pow-add 2 8 (8 * suc k)

byte_le : (v : ℕ) → v % 256 ≤ 255
byte_le v = rem_le 255 v

-- ---- numbers

-- what stands above the bytes does not matter
with_dots_low : (k n r : ℕ) → with_dots k (n * weight k + r) ≡ with_dots k r
unfolding with_dots
with_dots_low zero n r = ap decimal (mul-add-mod_self_right n 256 r)
with_dots_low (suc k) n r =
    let e : n * weight (suc k) ≡ n * 256 * weight k = ap (λ x. n * x) (weight_more k) ∙ sym (mul_assoc n 256 (weight k)) in
    ap₂ (λ x y. decimal x ++ (46 ∷ y))
    (ap (λ x. (x + r) / weight k % 256) e
    ∙ ap (λ x. x % 256) (mul-add-div_right (pow_pos (8 * suc k)) (n * 256) r)
    ∙ mul-add-mod_self_right n 256 (r / weight k))
    (ap (λ x. with_dots k (x + r)) e ∙ with_dots_low k (n * 256) r)

with_dots_mod : (k v : ℕ) → with_dots k (v % weight k) ≡ with_dots k v
with_dots_mod k v = sym (with_dots_low k (v / weight k) (v % weight k)) ∙ ap (with_dots k) (div-add-mod' v (weight k))

-- one byte more in front
pub joined : (k n r : ℕ) → n ≤ 255 → r < weight k → with_dots (suc k) (n * weight k + r) ≡ decimal n ++ (46 ∷ with_dots k r)
unfolding with_dots
joined k n r small less =
    ap₂ (λ x y. decimal x ++ (46 ∷ y))
    (ap (λ x. x % 256) (high n (8 * suc k) less) ∙ mod-eq_of_lt (omega arith))
    (with_dots_low k n r)

-- such a number fits, and shifting its first byte loses nothing
pub shifted : (k n : ℕ) → k ≤ 2 → n ≤ 255 → (n * weight k) % 4294967296 ≡ n * weight k
shifted k n a small = shl_whole n 8 (8 * suc k) 32 (omega arith) (omega arith)

pub joined_lt : (k n r : ℕ) → n ≤ 255 → r < weight k → n * weight k + r < weight (suc k)
joined_lt k n r small less = subst (λ x. n * weight k + r < x) (sym (weight_more k)) (digits_lt {m = 256} (omega arith) less)

pub weight_le : (k : ℕ) → k ≤ 3 → weight k ≤ 4294967296
weight_le k h = pow_mono {j = 32} (omega arith)

-- ---- taking apart

-- a number that cannot be made longer, in front of such a text, is its first byte, and a dot stands behind it
cut : (k v n : ℕ) (t : List ℕ) → n ≤ 255 → Stops 255 n t → with_dots (suc k) v ≡ decimal n ++ t → t ≡ 46 ∷ with_dots k v
unfolding with_dots
cut k v n t small h e =
    sym (unique 255 (v / weight k % 256) n (46 ∷ with_dots k v) t (omega arith) (byte_le (v / weight k)) small (λ x. omega (arith, x.1.0)) h e).1

-- the texts of two numbers are the same only where their bytes are
pub one_number : (k u v : ℕ) → with_dots k u ≡ with_dots k v → u % weight k ≡ v % weight k
unfolding with_dots
one_number zero u v e = decimal_injective (u % 256) (v % 256) (omega (arith, byte_le u)) (omega (arith, byte_le v)) e
one_number (suc k) u v e =
    let p = unique 255 (u / weight k % 256) (v / weight k % 256) (46 ∷ with_dots k u) (46 ∷ with_dots k v) (omega arith)
    (byte_le (u / weight k)) (byte_le (v / weight k)) (λ x. omega (arith, x.1.0)) (λ x. omega (arith, x.1.0)) e in
    let rest : u % weight k ≡ v % weight k = one_number k u v (ap (drop 1) p.1) in
    let whole : (x : ℕ) → x % weight (suc k) ≡ (x / weight k % 256) * weight k + x % weight k =
    λ x. ap (λ i. x % 2 ^ i) (omega arith) ∙ mod-pow-add x 8 (8 * suc k) in
    whole u ∙ ap₂ (λ x y. x * weight k + y) p.0 rest ∙ sym (whole v)

-- ---- the longest number in front

module _ {text : List ℕ} {n end : ℕ} (l : Longest 255 text n end) where
  -- the last byte is all
  pub last_is : length text ≤ end → text ≡ with_dots 0 n
  unfolding with_dots
  last_is h = alone l h ∙ ap decimal (sym (mod-eq_of_lt (omega (arith, l.small))))

  -- something stands behind the last byte
  pub behind_last : end < length text → Stuck (with_dots 0) text end
  unfolding with_dots
  behind_last h = behind l (omega arith) h

  -- no dot stands behind a byte that is not the last
  pub no_dot : (k : ℕ) → (end < length text → slice_index text end ≢ 46) → Stuck (with_dots (suc k)) text end
  no_dot k other =
      record {
        within = l.within;
        begun = (
          n * weight k + 0,
          46 ∷ with_dots k 0,
          joined k n 0 l.small (pow_pos (8 * suc k)) ∙ ap (λ t. t ++ (46 ∷ with_dots k 0)) (sym l.is),
        );
        stops = λ h b.
            other h (ap (λ t. slice_index t 0) (cut k b.0 n (slice_index text end ∷ b.1) l.small (l.stops h) (b.2 ∙ next_and l b.1 h)));
        none = λ v e.
            let d = cut k v n (drop end text) l.small (rest_stops l) (sym e ∙ front l) in
            ⊎_elim
            (λ h. other h (ap (λ t. slice_index t 0) (sym (drop_more text end 0 h) ∙ d)))
            (λ h. omega (arith, ap length (sym (drop_all end text h) ∙ d)))
            (cases_lt end (length text));
      }

  module _ (h : end < length text) (dot : slice_index text end ≡ 46) where
    after : text ≡ decimal n ++ (46 ∷ drop (end + 1) text)
    after = front l ∙ ap (λ t. decimal n ++ t) (drop_more text end 0 h ∙ ap (λ c. c ∷ drop (end + 1) text) dot)

    part : (p : ℕ) → take (end + 1 + p) text ≡ decimal n ++ (46 ∷ take p (drop (end + 1) text))
    part p =
        take-add (end + 1) p text ∙ next_and l (take p (drop (end + 1) text)) h
        ∙ ap (λ c. decimal n ++ (c ∷ take p (drop (end + 1) text))) dot

    -- the other bytes are read
    pub rest_is : (k r : ℕ) → drop (end + 1) text ≡ with_dots k r → r < weight k → text ≡ with_dots (suc k) (n * weight k + r)
    rest_is k r e less = after ∙ ap (λ t. decimal n ++ (46 ∷ t)) e ∙ sym (joined k n r l.small less)

    -- reading stops in the other bytes
    pub rest_stuck : (k p : ℕ) → Stuck (with_dots k) (drop (end + 1) text) p → Stuck (with_dots (suc k)) text (end + 1 + p)
    rest_stuck k p s =
        let dotted-stops : (t : List ℕ) → Stops 255 n (46 ∷ t) = λ t x. omega (arith, x.1.0) in
        let inner : (v : ℕ) (t : List ℕ) → with_dots (suc k) v ≡ decimal n ++ (46 ∷ t) → with_dots k v ≡ t =
        λ v t e. ap (drop 1) (sym (cut k v n (46 ∷ t) l.small (dotted-stops t) e)) in
        record {
          within = omega (arith, s.within, length-drop (end + 1) text);
          begun =
              let b = s.begun in (
                n * weight k + b.0 % weight k,
                b.1,
                joined k n (b.0 % weight k) l.small (mod-lt b.0 (pow_pos (8 * suc k)))
                    ∙ ap (λ t. decimal n ++ (46 ∷ t)) (with_dots_mod k b.0 ∙ b.2)
                    ∙ sym (append_assoc (decimal n) (46 ∷ take p (drop (end + 1) text)) b.1)
                    ∙ ap (λ t. t ++ b.1) (sym (part p)),
              );
          stops = λ less b.
              s.stops (omega (arith, length-drop (end + 1) text)) (
                b.0,
                b.1,
                inner b.0 (take (p + 1) (drop (end + 1) text) ++ b.1)
                    (b.2 ∙ ap (λ t. t ++ b.1) (ap (λ i. take i text) (omega arith) ∙ part (p + 1))
                    ∙ append_assoc (decimal n) (46 ∷ take (p + 1) (drop (end + 1) text)) b.1),
              );
          none = λ v e. s.none v (sym (inner v (drop (end + 1) text) (sym e ∙ after)));
        }

-- ---- no number in front

pub first_byte : (k v : ℕ) → FirstDigit (with_dots k v)
unfolding with_dots
first_byte zero v = first_digit (v % 256) (omega (arith, byte_le v))
first_byte (suc k) v =
    let p = first_digit (v / weight k % 256) (omega (arith, byte_le (v / weight k))) in
    (p.0, p.1 ++ (46 ∷ with_dots k v), ap (λ t. t ++ (46 ∷ with_dots k v)) p.2, p.3)
