-- Shifts in a word of D bits, as reads and writes of a row of w bits.
use Rattle.std.proofs.Common.{◌≡◌, ℕ, ◌+◌, ◌-◌, ◌*◌, ◌/◌, ◌%◌, ◌^◌, ◌<◌, ◌≤◌, min, false, eqb, ◌⊎◌, inl, inr, ◌++◌, length, take, drop, replicate, sym, refl, ap, ◌∙◌, subst, mul_assoc, ap₂, ⊎_elim, mod-lt, arith, take_all, pow_pos, pow-add, shr-shr, shr_lt}
use lib.Arith.{digits_lt}
use lib.ListN.{length-replicate}
use Rattle.std.proofs.Math.Pow.{shl_lt}
use lib.Bits.{bit_or}
use Rattle.std.proofs.lemmas.Nat.{or_shifted, shl_whole, one_shl}
use Rattle.std.proofs.lemmas.Bool.{cases_lt}
use Rattle.bits.specs.Rows.{number, row, read_group, write_group, clear, padded, top}
use Rattle.bits.proofs.Rows.{length_row, read_row, row_shl, take_row, Parts, write_row}
use Rattle.bits.proofs.Padded.{padded_split}
use Rattle.bits.proofs.Groups.{clear_row, clear_behind, read_behind}

-- a group is read from the top of the word
module _ (D w place p len n v : ℕ) (fits : w ≤ D) (six : 6 ≤ D) (hp : p ≡ min place w) (hn : n ≡ min len 6) where
  inside : p ≡ place → top D w p v / 2 ^ (D - 6) / 2 ^ (6 - n) ≡ read_group (row w v) place len
  unfolding read_group
  inside ep =
      let e : n + (D - n) ≡ D = omega arith in
      let ew : p + (w - p) ≡ w = omega arith in
      let ed : D - 6 + (6 - n) ≡ D - n = omega arith in
      let r = read_row p (w - p) v n (D - (w - p)) (D - n) (omega arith) in
      shr-shr (top D w p v) (D - 6) (6 - n)
      ∙ ap (λ i. top D w p v / 2 ^ i) ed
      ∙ ap (λ i. (v * 2 ^ (D - (w - p))) % 2 ^ i / 2 ^ (D - n)) (sym e)
      ∙ sym r
      ∙ ap₂ (λ i k. number (take i (drop p (row k v) ++ replicate i false))) hn ew
      ∙ ap (λ i. number (take (min len 6) (drop i (row w v) ++ replicate (min len 6) false))) ep

pub read_top : (D w place p len n v : ℕ) → w ≤ D → 6 ≤ D → p ≡ min place w → n ≡ min len 6 → top D w p v / 2 ^ (D - 6) / 2 ^ (6 - n) ≡ read_group (row w v) place len
read_top D w place p len n v fits six hp hn =
    ⊎_elim
    (λ h. inside D w place p len n v fits six hp hn (omega arith))
    (λ h.
    let l = length_row w v in
    inside D w p p len n v fits six (omega arith) hn refl
    ∙ read_behind (row w v) p len (omega arith)
    ∙ sym (read_behind (row w v) place len (omega arith)))
    (cases_lt place w)

pub clear_top : (D w place p v : ℕ) → w ≤ D → p ≡ min place w → eqb (top D w p v) 0 ≡ clear (drop place (row w v))
clear_top D w place p v fits hp =
    let e : w - p + (D - (w - p)) ≡ D = omega arith in
    let ew : p + (w - p) ≡ w = omega arith in
    let l = length_row w v in
    ap (λ i. eqb ((v * 2 ^ (D - (w - p))) % 2 ^ i) 0) (sym e)
    ∙ sym (clear_row p (w - p) v (D - (w - p)))
    ∙ ap (λ k. clear (drop p (row k v))) ew
    ∙ ⊎_elim
    (λ h. ap (λ i. clear (drop i (row w v))) (omega arith))
    (λ h. clear_behind (row w v) p (omega arith) ∙ sym (clear_behind (row w v) place (omega arith)))
    (cases_lt place w)

-- shifting up in two steps, the first of which loses nothing
pub top_by_steps : (D w p v : ℕ) → w ≤ D → p ≤ w → v < 2 ^ w → ((v * 2 ^ (D - w)) % 2 ^ D * 2 ^ p) % 2 ^ D ≡ top D w p v
top_by_steps D w p v fits hp hv =
    let e : D - w + p ≡ D - (w - p) = omega arith in
    ap (λ x. (x * 2 ^ p) % 2 ^ D) (shl_whole v w (D - w) D hv (omega arith))
    ∙ ap (λ x. x % 2 ^ D) (mul_assoc v (2 ^ (D - w)) (2 ^ p) ∙ ap (λ x. v * x) (sym (pow-add 2 (D - w) p) ∙ ap (λ i. 2 ^ i) e))

-- p bits, k bits of value x, and s bits in place
module _ (D p k s v x : ℕ) (fits : p + k + s ≤ D) (some : 0 < k) (hv : v < 2 ^ (p + k + s)) (hx : x < 2 ^ k) where
  head_lt : v / 2 ^ s / 2 ^ k < 2 ^ p
  head_lt = shr_lt p k (shr_lt (p + k) s hv)

  joined_lt : v / 2 ^ s / 2 ^ k * 2 ^ k + x < 2 ^ (p + k)
  joined_lt = subst (λ y. v / 2 ^ s / 2 ^ k * 2 ^ k + x < y) (sym (pow-add 2 p k)) (digits_lt head_lt hx)

  packed_lt : (v / 2 ^ s / 2 ^ k * 2 ^ k + x) * 2 ^ s + v % 2 ^ s < 2 ^ (p + k + s)
  packed_lt =
      subst (λ y. (v / 2 ^ s / 2 ^ k * 2 ^ k + x) * 2 ^ s + v % 2 ^ s < y) (sym (pow-add 2 (p + k) s))
      (digits_lt joined_lt (mod-lt v (pow_pos s)))

  packed : bit_or ((bit_or ((v / 2 ^ s / 2 ^ k * 2 ^ k) % 2 ^ D) x * 2 ^ s) % 2 ^ D) (v % (1 * 2 ^ s % 2 ^ D)) ≡ (v / 2 ^ s / 2 ^ k * 2 ^ k + x) * 2 ^ s + v % 2 ^ s
  packed =
      let head = v / 2 ^ s / 2 ^ k in
      ap₂ (λ a b. bit_or ((a * 2 ^ s) % 2 ^ D) (v % b))
      (ap (λ a. bit_or a x) (shl_whole head p k D head_lt (omega arith)) ∙ or_shifted head k x hx)
      (one_shl s D (omega arith))
      ∙ ap (λ a. bit_or a (v % 2 ^ s)) (shl_whole (head * 2 ^ k + x) (p + k) s D joined_lt fits)
      ∙ or_shifted (head * 2 ^ k + x) s (v % 2 ^ s) (mod-lt v (pow_pos s))

  abbrev parts : Parts p k s (v / 2 ^ s / 2 ^ k) x (v % 2 ^ s) v
  parts = record { head_is = refl; rest_is = refl; small = hx }

-- the word with a group written: what stands before it, the group's bits that fit, and what stands behind
abbrev pub low_word : ℕ → ℕ → ℕ → ℕ
low_word value n k = value % (1 * 2 ^ n % 2 ^ 8) / 2 ^ (n - k)

abbrev pub write_word : ℕ → ℕ → ℕ → ℕ → ℕ → ℕ → ℕ
write_word D k s n v value = bit_or ((bit_or ((v / 2 ^ s / 2 ^ k * 2 ^ k) % 2 ^ D) (low_word value n k) * 2 ^ s) % 2 ^ D) (v % (1 * 2 ^ s % 2 ^ D))

-- the n low bits of a value are written from place p, of which k fit
module _ (D w p k n v value len : ℕ) (fits : w ≤ D) (inside : p < w) (some : 0 < n) (hn : n ≡ min len 6) (hk : k ≡ min n (w - p)) (hv : v < 2 ^ w) where
  abbrev s : ℕ
  s = w - p - k

  abbrev x : ℕ
  x = low_word value n k

  hw : p + k + s ≡ w
  hw = omega arith

  room : p + k + s ≤ D
  room = omega arith

  some' : 0 < k
  some' = omega arith

  side : (n - k ≡ 0) ⊎ (s ≡ 0)
  side = ⊎_elim (λ h. inl (omega arith)) (λ h. inr (omega arith)) (cases_lt n (w - p))

  low_is : x ≡ value % 2 ^ n / 2 ^ (n - k)
  low_is = ap (λ y. value % y / 2 ^ (n - k)) (one_shl n 8 (omega arith))

  low_lt : x < 2 ^ k
  low_lt =
      let e : k + (n - k) ≡ n = omega arith in
      subst (λ y. y < 2 ^ k) (sym low_is) (shr_lt k (n - k) (subst (λ i. value % 2 ^ n < 2 ^ i) (sym e) (mod-lt value (pow_pos n))))

  hv' : v < 2 ^ (p + k + s)
  hv' = subst (λ i. v < 2 ^ i) (sym hw) hv

  pub write_word_is : row w (write_word D k s n v value) ≡ write_group (row w v) p len value
  unfolding write_group
  write_word_is =
      let e : n ≡ k + (n - k) = omega arith in
      ap₂ row (sym hw) (packed D p k s v x room some' hv' low_lt)
      ∙ write_row (parts D p k s v x room some' hv' low_lt) n (n - k) value e low_is side
      ∙ ap₂ (λ i m. take (length (row i v)) (take p (row i v) ++ (row m value ++ drop (p + m) (row i v)))) hw hn

  -- the word has no bit above the row
  pub write_word_lt : write_word D k s n v value < 2 ^ w
  write_word_lt =
      subst (λ i. write_word D k s n v value < 2 ^ i) hw
      (subst (λ y. y < 2 ^ (p + k + s)) (sym (packed D p k s v x room some' hv' low_lt)) (packed_lt D p k s v x room some' hv' low_lt))

-- ---- the first bits of a row

-- of a row of l + b bits the last b cleared, by a shift down and one up
pub first_row : (l b v : ℕ) → row (l + b) (v / 2 ^ b * 2 ^ b) ≡ padded (l + b) (take l (row (l + b) v))
first_row l b v =
    let x = row l (v / 2 ^ b) in
    row_shl l b (v / 2 ^ b)
    ∙ ap (λ r. x ++ r) (sym (take_all b (replicate b false) (let s = length-replicate b false in omega arith)))
    ∙ sym (padded_split x b)
    ∙ ap (λ k. padded (k + b) x) (length_row l (v / 2 ^ b))
    ∙ ap (padded (l + b)) (sym (take_row l b v))

-- in a word of D bits, the shifts in two steps each
module _ (D w len v : ℕ) (fits : w ≤ D) (inside : len < w) (hv : v < 2 ^ w) where
  abbrev pub first_word : ℕ
  first_word = ((v / 2 ^ (w - 1 - len) / 2 ^ 1 * 2 ^ 1) % 2 ^ D * 2 ^ (w - 1 - len)) % 2 ^ D

  pub first_word_is : first_word ≡ v / 2 ^ (w - len) * 2 ^ (w - len)
  first_word_is =
      let k = w - 1 - len in
      let e : k + 1 ≡ w - len = omega arith in
      let whole : w - len + len ≡ w = omega arith in
      let down : v / 2 ^ k / 2 ^ 1 ≡ v / 2 ^ (w - len) = shr-shr v k 1 ∙ ap (λ i. v / 2 ^ i) e in
      let small : v / 2 ^ (w - len) < 2 ^ len = shr_lt len (w - len) (subst (λ i. v < 2 ^ i) (sym (omega arith)) hv) in
      ap (λ x. ((x * 2 ^ 1) % 2 ^ D * 2 ^ k) % 2 ^ D) down
      ∙ ap (λ x. (x * 2 ^ k) % 2 ^ D) (shl_whole (v / 2 ^ (w - len)) len 1 D small (omega arith))
      ∙ shl_whole (v / 2 ^ (w - len) * 2 ^ 1) (len + 1) k D (subst (λ y. v / 2 ^ (w - len) * 2 ^ 1 < y) (sym (pow-add 2 len 1)) (omega (arith, small))) (omega arith)
      ∙ mul_assoc (v / 2 ^ (w - len)) (2 ^ 1) (2 ^ k)
      ∙ ap (λ y. v / 2 ^ (w - len) * y) (sym (pow-add 2 1 k) ∙ ap (λ i. 2 ^ i) (omega arith))

  pub first_word_row : row w first_word ≡ padded w (take len (row w v))
  first_word_row =
      let e : len + (w - len) ≡ w = omega arith in
      ap (row w) first_word_is
      ∙ ap (λ i. row i (v / 2 ^ (w - len) * 2 ^ (w - len))) (sym e)
      ∙ first_row len (w - len) v
      ∙ ap (λ i. padded i (take len (row i v))) e

  pub first_word_lt : first_word < 2 ^ w
  first_word_lt =
      subst (λ x. x < 2 ^ w) (sym first_word_is)
      (subst (λ i. v / 2 ^ (w - len) * 2 ^ (w - len) < 2 ^ i) (omega arith)
      (shl_lt len (w - len) (shr_lt len (w - len) (subst (λ i. v < 2 ^ i) (sym (omega arith)) hv))))
