-- Laws of rows and of the numbers that they spell.
use Rattle.std.proofs.Common.{◌≡◌, ℕ, zero, suc, ◌+◌, ◌*◌, ◌/◌, ◌%◌, ◌^◌, ◌<◌, false, eqb, ◌⊎◌, [], ◌∷◌, ◌++◌, length, take, drop, replicate, sym, refl, ap, ◌∙◌, subst, ap₂, inl, inr, append_assoc, append-nil, mod-lt, add_comm, suc-add, zero-add, mul_right_comm, div-one, one-add, arith, length-append, length-drop, take_all, take_at, drop_at, pow_pos, pow-add, shr-shr}
use native.Mathlib.Nat.{mod-mod, mod-one, zero-div, mul-mod_left, mul-div-mul_right}
use lib.Seq.{take-append-add}
use Rattle.std.proofs.lemmas.List.{drop_all}
use lib.Pow.{high, low, shl-shr, mod-pow-add, mod-mod-pow, field}
use Rattle.bits.specs.Rows.{bit, number, row}

digit : (m : ℕ) → m < 2 → bit (eqb m 1) ≡ m
digit zero h = refl
digit (suc zero) h = refl
digit (suc (suc m)) h = omega arith

pub length_row : (n v : ℕ) → length (row n v) ≡ n
unfolding row
length_row zero v = refl
length_row (suc n) v = ap suc (length_row n v)

pub number_row : (n v : ℕ) → number (row n v) ≡ v % 2 ^ n
unfolding number row
number_row zero v = sym (mod-one v)
number_row (suc n) v =
    ap₂ (λ x y. x + y)
    (ap₂ (λ x k. x * 2 ^ k) (digit (v / 2 ^ n % 2) (mod-lt (v / 2 ^ n) (omega arith))) (length_row n v))
    (number_row n v)
    ∙ sym (ap (λ k. v % 2 ^ k) (sym (one-add n)) ∙ mod-pow-add v 1 n)

pub row_split : (a b v : ℕ) → row (a + b) v ≡ row a (v / 2 ^ b) ++ row b v
unfolding row
row_split zero b v = ap (λ n. row n v) (zero-add b)
row_split (suc a) b v =
    ap (λ n. row n v) (suc-add a b)
    ∙ ap₂ (λ x r. eqb (x % 2) 1 ∷ r) (ap (λ k. v / 2 ^ k) (add_comm a b) ∙ sym (shr-shr v b a)) (row_split a b v)

pub row_mod : (n v : ℕ) → row n (v % 2 ^ n) ≡ row n v
unfolding row
row_mod zero v = refl
row_mod (suc n) v =
    ap₂ (λ x r. eqb x 1 ∷ r)
    (ap (λ k. v % 2 ^ k / 2 ^ n % 2) (sym (one-add n)) ∙ ap (λ x. x % 2) (field v 1 n) ∙ mod-mod (v / 2 ^ n) 2)
    (sym (row_mod n (v % 2 ^ suc n)) ∙ ap (row n) (ap (λ k. v % 2 ^ k % 2 ^ n) (sym (one-add n)) ∙ mod-mod-pow v 1 n) ∙ row_mod n v)

pub row_zero : (n : ℕ) → row n 0 ≡ replicate n false
unfolding row
row_zero zero = refl
row_zero (suc n) = ap₂ (λ x r. eqb (x % 2) 1 ∷ r) (zero-div (2 ^ n)) (row_zero n)

-- a row in two parts
pub row_join : (a b x y : ℕ) → y < 2 ^ b → row (a + b) (x * 2 ^ b + y) ≡ row a x ++ row b y
row_join a b x y h =
    row_split a b (x * 2 ^ b + y)
    ∙ ap₂ (λ p q. row a p ++ q) (high x b h)
    (sym (row_mod b (x * 2 ^ b + y)) ∙ ap (row b) (low x b h))

-- ---- parts of a row

pub take_row : (n m v : ℕ) → take n (row (n + m) v) ≡ row n (v / 2 ^ m)
take_row n m v = ap (take n) (row_split n m v) ∙ take_at (row n (v / 2 ^ m)) (row m v) n (length_row n (v / 2 ^ m))

pub drop_row : (n m v : ℕ) → drop n (row (n + m) v) ≡ row m v
drop_row n m v = ap (drop n) (row_split n m v) ∙ drop_at (row n (v / 2 ^ m)) (row m v) n (length_row n (v / 2 ^ m))

-- zeros behind a row
pub row_shl : (k n v : ℕ) → row (k + n) (v * 2 ^ n) ≡ row k v ++ replicate n false
row_shl k n v =
    row_split k n (v * 2 ^ n)
    ∙ ap₂ (λ p q. row k p ++ q) (shl-shr v n)
    (sym (row_mod n (v * 2 ^ n)) ∙ ap (row n) (mul-mod_left v (2 ^ n)) ∙ row_zero n)

-- the n bits from place p of a row of p + k bits, zeros behind them, by a shift up and one down in a word of n + m bits
pub read_row : (p k v n j m : ℕ) → k + j ≡ n + m
    → number (take n (drop p (row (p + k) v) ++ replicate n false)) ≡ (v * 2 ^ j) % 2 ^ (n + m) / 2 ^ m
read_row p k v n j m e =
    ap (λ r. number (take n (r ++ replicate n false))) (drop_row p k v)
    ∙ ap (λ r. number (take n r)) (sym (row_shl k n v) ∙ ap (λ i. row i (v * 2 ^ n)) (add_comm k n))
    ∙ ap number (take_row n k (v * 2 ^ n))
    ∙ number_row n (v * 2 ^ n / 2 ^ k)
    ∙ ap (λ x. x % 2 ^ n)
    (sym (mul-div-mul_right (v * 2 ^ n) (2 ^ k) (pow_pos j))
    ∙ ap₂ (λ x y. x / y) (mul_right_comm v (2 ^ n) (2 ^ j)) (sym (pow-add 2 k j) ∙ ap (λ i. 2 ^ i) (e ∙ add_comm n m) ∙ pow-add 2 m n)
    ∙ mul-div-mul_right (v * 2 ^ j) (2 ^ m) (pow_pos n))
    ∙ sym (field (v * 2 ^ j) n m)

-- ---- writing: p bits, then the k bits that are written, then s more

pub record Parts (p k s head x rest v : ℕ) : Type 0 where
  pub head_is : head ≡ v / 2 ^ s / 2 ^ k
  pub rest_is : rest ≡ v % 2 ^ s
  pub small : x < 2 ^ k

module _ {p k s head x rest v : ℕ} (h : Parts p k s head x rest v) where
  rest_lt : rest < 2 ^ s
  rest_lt = subst (λ r. r < 2 ^ s) (sym h.rest_is) (mod-lt v (pow_pos s))

  pub written_row : row (p + k + s) ((head * 2 ^ k + x) * 2 ^ s + rest) ≡ row p head ++ row k x ++ row s rest
  written_row =
      row_join (p + k) s (head * 2 ^ k + x) rest rest_lt
      ∙ ap (λ r. r ++ row s rest) (row_join p k head x h.small)

  pub whole_row : row (p + k + s) v ≡ row p head ++ row k (v / 2 ^ s) ++ row s rest
  whole_row =
      row_split (p + k) s v
      ∙ ap₂ (λ a b. a ++ b)
      (row_split p k (v / 2 ^ s) ∙ ap (λ y. row p y ++ row k (v / 2 ^ s)) (sym h.head_is))
      (sym (row_mod s v) ∙ ap (row s) (sym h.rest_is))

  take_front : take p (row (p + k + s) v) ≡ row p head
  take_front =
      ap (take p) (whole_row ∙ append_assoc (row p head) (row k (v / 2 ^ s)) (row s rest))
      ∙ take_at (row p head) (row k (v / 2 ^ s) ++ row s rest) p (length_row p head)

  drop_back : drop (p + k) (row (p + k + s) v) ≡ row s rest
  drop_back = drop_row (p + k) s v ∙ sym (row_mod s v) ∙ ap (row s) (sym h.rest_is)

  -- n bits are written, of which the last e fall behind the row
  module _ (n e value : ℕ) (ne : n ≡ k + e) (xe : x ≡ value % 2 ^ n / 2 ^ e) where
    x_row : row k x ≡ row k (value / 2 ^ e)
    x_row = ap (row k) (xe ∙ ap (λ i. value % 2 ^ i / 2 ^ e) ne ∙ field value k e) ∙ row_mod k (value / 2 ^ e)

    abbrev Goal : Type 0
    Goal =
        row (p + k + s) ((head * 2 ^ k + x) * 2 ^ s + rest)
        ≡ take (length (row (p + k + s) v)) (take p (row (p + k + s) v) ++ (row n value ++ drop (p + n) (row (p + k + s) v)))

    inside : e ≡ 0 → Goal
    inside z =
        let nk : n ≡ k = omega arith in
        let xk : row k x ≡ row n value = x_row ∙ ap₂ (λ i y. row i (value / 2 ^ y)) (sym nk) z ∙ ap (row n) (div-one value) in
        written_row
        ∙ append_assoc (row p head) (row k x) (row s rest)
        ∙ ap₂ (λ a b. a ++ b) (sym take_front)
        (ap₂ (λ a b. a ++ b) xk (sym drop_back ∙ ap (λ i. drop (p + i) (row (p + k + s) v)) (sym nk)))
        ∙ sym (take_all (length (row (p + k + s) v)) (take p (row (p + k + s) v) ++ (row n value ++ drop (p + n) (row (p + k + s) v)))
        (let a = length-append (take p (row (p + k + s) v)) (row n value ++ drop (p + n) (row (p + k + s) v)) in
        let b = length-append (row n value) (drop (p + n) (row (p + k + s) v)) in
        let c = ap length take_front ∙ length_row p head in
        let d = length_row n value in
        let f = length_row (p + k + s) v in
        let g = length-drop (p + n) (row (p + k + s) v) in
        omega arith))

    cut : s ≡ 0 → Goal
    unfolding row
    cut z =
        let none : row s rest ≡ [] = ap (λ i. row i rest) z in
        let f = length_row (p + k + s) v in
        let gone : drop (p + n) (row (p + k + s) v) ≡ [] = drop_all (p + n) (row (p + k + s) v) (omega arith) in
        let long : length (row (p + k + s) v) ≡ length (row p head) + k = f ∙ (let d = length_row p head in omega arith) in
        written_row
        ∙ ap₂ (λ a b. row p head ++ a ++ b) x_row none
        ∙ append-nil (row p head ++ row k (value / 2 ^ e))
        ∙ ap (λ r. row p head ++ r) (sym (take_row k e value))
        ∙ sym (take-append-add (row p head) (row (k + e) value) k)
        ∙ ap₂ (λ i r. take i (row p head ++ r)) (sym long) (ap (λ i. row i value) (sym ne) ∙ sym (append-nil (row n value)) ∙ ap (λ r. row n value ++ r) (sym gone))
        ∙ ap (λ r. take (length (row (p + k + s) v)) (r ++ (row n value ++ drop (p + n) (row (p + k + s) v)))) (sym take_front)

    pub write_row : (e ≡ 0) ⊎ (s ≡ 0) → Goal
    write_row (inl z) = inside z
    write_row (inr z) = cut z
