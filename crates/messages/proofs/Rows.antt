-- Rows of bits in bytes: the bits behind a length are in the last byte, and an address is made of them in parts.
use Rattle.std.proofs.Common.{◌≡◌, ℕ, zero, suc, ◌+◌, ◌-◌, ◌*◌, ◌/◌, ◌%◌, ◌^◌, ◌<◌, ◌≤◌, min, eqb, true, false, [], ◌∷◌, ◌++◌, length, take, drop, replicate, sym, refl, ap, ap₂, ◌∙◌, subst, append_assoc, append-nil, suc-add, arith, length-append, take_all, take_at, drop_at, slice_get, Some, None, ⊎_elim}
use Rattle.std.proofs.lemmas.List.{drop_all, drop-replicate, length-take-le, take-append-le}
use Rattle.std.proofs.lemmas.Bool.{cases_lt}
use Rattle.std.proofs.Math.Seq.{drop-append_seam, take-append-add, take-append_seam}
use native.Mathlib.Numerals.{unary_clauses}
use lib.ListN.{length-replicate}
use Rattle.bits.specs.Rows.{Bits, clear, padded, row, write_group}
use Rattle.bits.specs.Order.{Sound}
use Rattle.bits.proofs.Groups.{clear_row, write_behind}
use Rattle.bits.proofs.Padded.{clear_padded, length_padded, padded_cons, padded_more, padded_split}
use Rattle.bits.proofs.Rows.{length_row, row_split}
use Rattle.laws.proofs.Digits.{length_unpack}
use Rattle.model.specs.Bytes.{Bytes, byte_count, unpack}
use Rattle.model.specs.Routes.{prefix_of, sound}

-- zeros that reach far enough behind a row pad it
pub zeros_enough : (m k : ℕ) (bs : Bits) → m ≤ length bs + k → take m (bs ++ replicate k false) ≡ padded m bs
zeros_enough zero k bs h = refl
zeros_enough (suc m) zero [] h = absurd (omega arith)
zeros_enough (suc m) (suc k) [] h = ap (λ (r : Bits). false ∷ r) (zeros_enough m k [] (omega arith))
zeros_enough (suc m) k (b ∷ bs) h = ap (λ (r : Bits). b ∷ r) (zeros_enough m k bs (omega arith)) ∙ sym (padded_cons m b bs)

-- ---- the bits behind a length

drop_behind : (xs ys : Bits) (n m : ℕ) → length xs ≡ n → drop (n + m) (xs ++ ys) ≡ drop m ys
drop_behind [] ys n m e = ap (λ k. drop k ys) (omega arith)
drop_behind (x ∷ xs) ys zero m e = absurd (omega arith)
drop_behind (x ∷ xs) ys (suc n) m e = rw suc-add (drop_behind xs ys n m (omega arith))

-- bytes of which the last is used in part
pub sound_last : (bs : Bytes) (last len : ℕ) → slice_get bs (length bs - 1) ≡ Some last → length bs ≡ byte_count len → 0 < len % 8
    → eqb (last * 2 ^ (len % 8) % 256) 0 ≡ sound (unpack bs) len
sound_last [] last len is e u = absurd (omega arith)
sound_last (b ∷ []) last len is e u =
    let same : b ≡ last = cc in
    let used : len % 8 ≡ len = omega arith in
    let eight : len + (8 - len) ≡ 8 = omega arith in
    let back : 8 - len + len ≡ 8 = omega arith in
    ap₂ (λ (v i : ℕ). eqb (v * 2 ^ i % 256) 0) (sym same) used
    ∙ ap (λ (k : ℕ). eqb (b * 2 ^ len % 2 ^ k) 0) (sym back)
    ∙ sym (clear_row len (8 - len) b len)
    ∙ ap (λ (k : ℕ). clear (drop len (row k b))) eight
    ∙ ap (λ (r : Bits). clear (drop len r)) (sym (append-nil (row 8 b)))
sound_last (b ∷ c ∷ bs) last len is e u =
    let rest : length (c ∷ bs) ≡ byte_count (len - 8) = omega arith in
    let used : (len - 8) % 8 ≡ len % 8 = omega arith in
    let whole : 8 + (len - 8) ≡ len = omega arith in
    ap (λ (i : ℕ). eqb (last * 2 ^ i % 256) 0) (sym used)
    ∙ sound_last (c ∷ bs) last (len - 8) (simp unary_clauses (simp unary_clauses at is)) rest (omega arith)
    ∙ ap clear (sym (drop_behind (row 8 b) (unpack (c ∷ bs)) 8 (len - 8) (length_row 8 b)))
    ∙ ap (λ (k : ℕ). clear (drop k (row 8 b ++ unpack (c ∷ bs)))) whole

-- bytes that are all used
pub sound_whole : (bs : Bytes) (len : ℕ) → length bs ≡ byte_count len → len % 8 ≡ 0 → true ≡ sound (unpack bs) len
unfolding clear
sound_whole bs len e u =
    let long = length_unpack bs in
    sym (ap clear (drop_all len (unpack bs) (omega arith)))

last_none : (bs : Bytes) → slice_get bs (length bs - 1) ≡ None → length bs ≡ 0
last_none [] is = refl
last_none (b ∷ []) is = cc
last_none (b ∷ c ∷ bs) is = let none = last_none (c ∷ bs) (simp unary_clauses (simp unary_clauses at is)) in absurd (omega arith)

pub sound_none : (bs : Bytes) (len : ℕ) → slice_get bs (length bs - 1) ≡ None → true ≡ sound (unpack bs) len
unfolding clear
sound_none bs len is =
    let none = last_none bs is in
    let long = length_unpack bs in
    sym (ap clear (drop_all len (unpack bs) (omega arith)))

-- ---- an address made of bytes

-- zeros behind the row, as far as it is longer
zeros_left : (n m : ℕ) → drop n (padded m []) ≡ replicate (m - n) false
zeros_left n m = ap (drop n) (take_all m (replicate m false) (let l = length-replicate m false in omega arith)) ∙ drop-replicate n m false

-- a group written behind the bits that an address begins with
write_next : (W n v : ℕ) (bs : Bits) → n ≤ 6 → write_group (padded W bs) (length bs) n v ≡ padded W (bs ++ row n v)
unfolding write_group
write_next W n v bs small =
    ⊎_elim
    (λ less.
    let room : length bs + (W - length bs) ≡ W = omega arith in
    subst (λ k. write_group (padded k bs) (length bs) n v ≡ padded k (bs ++ row n v)) room (inside (W - length bs)))
    (λ more.
    write_behind (padded W bs) (length bs) n v (let l = length_padded W bs in omega arith)
    ∙ take-append-le W bs (replicate W false) more
    ∙ sym (take-append-le W bs (row n v ++ replicate W false) more)
    ∙ ap (take W) (sym (append_assoc bs (row n v) (replicate W false))))
    (cases_lt (length bs) W)
  where
    inside : (m : ℕ) → write_group (padded (length bs + m) bs) (length bs) n v ≡ padded (length bs + m) (bs ++ row n v)
    inside m =
        let width : min n 6 ≡ n = omega arith in
        let split = padded_split bs m in
        let l = length_row n v in
        ap₂ (λ (k : ℕ) (r : Bits). take k (take (length bs) r ++ (row (min n 6) v ++ drop (length bs + min n 6) r)))
        (length_padded (length bs + m) bs) split
        ∙ ap₂ (λ (front : Bits) (i : ℕ). take (length bs + m) (front ++ (row i v ++ drop (length bs + i) (bs ++ padded m []))))
        (take-append_seam bs (padded m [])) width
        ∙ take-append-add bs (row n v ++ drop (length bs + n) (bs ++ padded m [])) m
        ∙ ap (λ (r : Bits). bs ++ take m (row n v ++ r)) (drop_behind bs (padded m []) (length bs) n refl ∙ zeros_left n m)
        ∙ ap (λ (r : Bits). bs ++ r) (zeros_enough m (m - n) (row n v) (omega arith))
        ∙ ap (λ (r : Bits). bs ++ padded m r) (sym (drop-append_seam bs (row n v)))
        ∙ ap (λ (r : Bits). r ++ padded m (drop (length bs) (bs ++ row n v)))
        (sym (take-append-le (length bs) (bs ++ row n v) (replicate (length bs) false) (let j = length-append bs (row n v) in omega arith)
        ∙ take-append_seam bs (row n v)))
        ∙ sym (padded_more (length bs) m (bs ++ row n v))

unpack_more : (bs : Bytes) (b : ℕ) → unpack (bs ++ (b ∷ [])) ≡ unpack bs ++ row 8 b
unpack_more [] b = append-nil (row 8 b)
unpack_more (c ∷ bs) b = ap (λ (r : Bits). row 8 c ++ r) (unpack_more bs b) ∙ sym (append_assoc (row 8 c) (unpack bs) (row 8 b))

-- a byte in two halves behind the bits of those before it
pub byte_next : (W b place : ℕ) (bs : Bytes) (x y : Bits) → length bs * 8 ≡ place → x ≡ write_group (padded W (unpack bs)) place 4 (b / 2 ^ 4)
    → y ≡ write_group x (place + 4) 4 b → y ≡ padded W (unpack (bs ++ (b ∷ [])))
byte_next W b place bs x y at high low =
    let long = length_unpack bs in
    let half = length_row 4 (b / 2 ^ 4) in
    let both = length-append (unpack bs) (row 4 (b / 2 ^ 4)) in
    let first : length (unpack bs) ≡ place = omega arith in
    let second : length (unpack bs ++ row 4 (b / 2 ^ 4)) ≡ place + 4 = omega arith in
    let was : x ≡ padded W (unpack bs ++ row 4 (b / 2 ^ 4)) =
    high ∙ ap (λ k. write_group (padded W (unpack bs)) k 4 (b / 2 ^ 4)) (sym first) ∙ write_next W 4 (b / 2 ^ 4) (unpack bs) (omega arith) in
    low
    ∙ ap₂ (λ (r : Bits) (k : ℕ). write_group r k 4 b) was (sym second)
    ∙ write_next W 4 b (unpack bs ++ row 4 (b / 2 ^ 4)) (omega arith)
    ∙ ap (padded W) (append_assoc (unpack bs) (row 4 (b / 2 ^ 4)) (row 4 b) ∙ ap (λ (r : Bits). unpack bs ++ r) (sym (row_split 4 4 b)) ∙ sym (unpack_more bs b))

-- no bytes yet
pub no_bytes : (W : ℕ) → replicate W false ≡ padded W (unpack [])
no_bytes W = sym (take_all W (replicate W false) (let l = length-replicate W false in omega arith))

-- ---- a prefix made of bytes

clear_more : (m : ℕ) (bs : Bits) → clear bs ≡ true → clear (padded m bs) ≡ true
unfolding clear
clear_more zero bs h = refl
clear_more (suc m) [] h = clear_padded (suc m)
clear_more (suc m) (true ∷ bs) h = cc
clear_more (suc m) (false ∷ bs) h = ap clear (padded_cons m false bs) ∙ clear_more m bs h

-- the bits of an address that stand in bytes from its front on are a sound prefix where no bit is set behind the length
module _ (W len : ℕ) (row address : Bits) (is : address ≡ padded W row) (inside : len ≤ length row) (short : len ≤ W) where
  front : padded len row ≡ take len row
  front = take-append-le len row (replicate len false) inside

  parts : address ≡ take len row ++ padded (W - len) (drop len row)
  parts =
      let whole : len + (W - len) ≡ W = omega arith in
      is ∙ ap (λ (k : ℕ). padded k row) (sym whole) ∙ padded_more len (W - len) row
      ∙ ap (λ (r : Bits). r ++ padded (W - len) (drop len row)) front

  pub prefix_in_bytes : prefix_of address len ≡ prefix_of row len
  prefix_in_bytes = ap (take len) parts ∙ take_at (take len row) (padded (W - len) (drop len row)) len (length-take-le len row inside)

  pub sound_in_bytes : sound row len ≡ true → Sound address len
  sound_in_bytes s =
      let long = length_padded W row in
      let same = ap length is in (
        omega arith,
        ap (λ (r : Bits). clear (drop len r)) parts
            ∙ ap clear (drop_at (take len row) (padded (W - len) (drop len row)) len (length-take-le len row inside))
            ∙ clear_more (W - len) (drop len row) s,
      )
