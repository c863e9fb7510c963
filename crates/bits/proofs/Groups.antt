-- What a group that was written reads as, and rows of zeros.
use Rattle.std.proofs.Common.{◌≡◌, ℕ, zero, suc, ◌+◌, ◌-◌, ◌*◌, ◌%◌, ◌^◌, ◌<◌, ◌≤◌, min, Bool, true, false, eqb, List, [], ◌∷◌, ◌++◌, length, take, drop, replicate, sym, refl, ap, ◌∙◌, ap₂, append_assoc, add-zero, add-suc, suc-mul, one-mul, zero-mul, arith, length-append, length-drop, take-append-drop, length-take, take_all, take_at, drop_at, pow_pos}
use native.Mathlib.Nat.{zero-mod, mul-mod_left}
use lib.ListN.{length-replicate}
use lib.Seq.{take-append-le}
use lib.Dec.{eqb-suc-zero}
use lib.Pow.{mod-pow-add, shl-shr}
use Rattle.std.proofs.lemmas.List.{drop_all, length-take-le}
use Rattle.bits.specs.Rows.{number, row, read_group, write_group, clear}
use Rattle.bits.proofs.Rows.{length_row, number_row, row_zero, drop_row}

-- inside the row no zeros are added
pub read_inside : (bs : List Bool) (place len : ℕ) → len ≤ 6 → place + len ≤ length bs → read_group bs place len ≡ number (take len (drop place bs))
unfolding read_group
read_inside bs place len l h =
    let m : min len 6 ≡ len = omega arith in
    ap₂ (λ i j. number (take i (drop place bs ++ replicate j false))) m m
    ∙ ap number (take-append-le len (drop place bs) (replicate len false) (let d = length-drop place bs in omega arith))

pub number_zeros : (n : ℕ) → number (replicate n false) ≡ 0
number_zeros n = ap number (sym (row_zero n)) ∙ number_row n 0 ∙ zero-mod (2 ^ n)

-- behind the row everything reads as 0
pub read_behind : (bs : List Bool) (place len : ℕ) → length bs ≤ place → read_group bs place len ≡ 0
unfolding read_group
read_behind bs place len h =
    ap (λ r. number (take (min len 6) (r ++ replicate (min len 6) false))) (drop_all place bs h)
    ∙ ap number (take_all (min len 6) (replicate (min len 6) false) (let d = length-replicate (min len 6) false in omega arith))
    ∙ number_zeros (min len 6)

pub write_behind : (bs : List Bool) (place len v : ℕ) → length bs ≤ place → write_group bs place len v ≡ bs
unfolding write_group
write_behind bs place len v h =
    ap (λ r. take (length bs) (r ++ (row (min len 6) v ++ drop (place + min len 6) bs))) (take_all place bs h)
    ∙ take_at bs (row (min len 6) v ++ drop (place + min len 6) bs) (length bs) refl

pub write_none : (bs : List Bool) (place len v : ℕ) → min len 6 ≡ 0 → write_group bs place len v ≡ bs
unfolding write_group row
write_none bs place len v e =
    ap (λ i. take (length bs) (take place bs ++ (row i v ++ drop (place + i) bs))) e
    ∙ ap (λ i. take (length bs) (take place bs ++ drop i bs)) (add-zero place)
    ∙ ap (take (length bs)) (take-append-drop place bs)
    ∙ take_all (length bs) bs (omega arith)

pub length_written : (bs : List Bool) (place len v : ℕ) → length (write_group bs place len v) ≡ length bs
unfolding write_group
length_written bs place len v =
    let n = min len 6 in
    let a = length-take (length bs) (take place bs ++ (row n v ++ drop (place + n) bs)) in
    let b = length-append (take place bs) (row n v ++ drop (place + n) bs) in
    let c = length-append (row n v) (drop (place + n) bs) in
    let d = length-take place bs in
    let e = length_row n v in
    let f = length-drop (place + n) bs in
    omega arith

-- a group written inside the row reads back
pub reads_back : (bs : List Bool) (place len v : ℕ) → place + min len 6 ≤ length bs → read_group (write_group bs place len v) place len ≡ v % 2 ^ min len 6
unfolding read_group write_group
reads_back bs place len v h =
    let n = min len 6 in
    let rest = drop (place + n) bs in
    let lt : length (take place bs) ≡ place = length-take-le place bs (omega arith) in
    ap (λ r. number (take n (drop place r ++ replicate n false)))
    (take_all (length bs) (take place bs ++ (row n v ++ rest))
    (let b = length-append (take place bs) (row n v ++ rest) in
    let c = length-append (row n v) rest in
    let e = length_row n v in
    let f = length-drop (place + n) bs in
    omega arith))
    ∙ ap (λ r. number (take n (r ++ replicate n false))) (drop_at (take place bs) (row n v ++ rest) place lt)
    ∙ ap (λ r. number (take n r)) (append_assoc (row n v) rest (replicate n false))
    ∙ ap number (take_at (row n v) (rest ++ replicate n false) n (length_row n v))
    ∙ number_row n v

-- the same of the row of w bits of a number
pub row_reads_back : (w x place len v : ℕ) → place + min len 6 ≤ w
    → read_group (write_group (row w x) place len v) place len ≡ v % 2 ^ min len 6
row_reads_back w x place len v h = let l = length_row w x in reads_back (row w x) place len v (omega arith)

-- ---- rows of zeros

eqb_mul : (a c : ℕ) → 0 < c → eqb (a * c) 0 ≡ eqb a 0
eqb_mul zero c h = ap (λ x. eqb x 0) (zero-mul c)
eqb_mul (suc a) zero h = absurd (omega arith)
eqb_mul (suc a) (suc c) h =
    ap (λ x. eqb x 0) (suc-mul a (suc c) ∙ add-suc (a * suc c) c) ∙ eqb-suc-zero (a * suc c + c) ∙ sym (eqb-suc-zero a)

pub clear_number : (bs : List Bool) → clear bs ≡ eqb (number bs) 0
unfolding clear number
clear_number [] = refl
clear_number (true ∷ bs) =
    let p = pow_pos (length bs) in
    let m = one-mul (2 ^ length bs) in
    let e : 1 * 2 ^ length bs + number bs ≡ suc (2 ^ length bs - 1 + number bs) = omega arith in
    sym (ap (λ x. eqb x 0) e ∙ eqb-suc-zero (2 ^ length bs - 1 + number bs))
clear_number (false ∷ bs) =
    let m = zero-mul (2 ^ length bs) in
    let e : number bs ≡ 0 * 2 ^ length bs + number bs = omega arith in
    clear_number bs ∙ ap (λ x. eqb x 0) e

mod_shl : (v k j : ℕ) → v * 2 ^ j % 2 ^ (k + j) ≡ v % 2 ^ k * 2 ^ j
mod_shl v k j =
    mod-pow-add (v * 2 ^ j) k j
    ∙ ap₂ (λ x y. x % 2 ^ k * 2 ^ j + y) (shl-shr v j) (mul-mod_left v (2 ^ j))
    ∙ add-zero (v % 2 ^ k * 2 ^ j)

-- the bits from place p of a row of p + k bits, by a shift up in a word of k + j bits
pub clear_row : (p k v j : ℕ) → clear (drop p (row (p + k) v)) ≡ eqb (v * 2 ^ j % 2 ^ (k + j)) 0
clear_row p k v j =
    ap clear (drop_row p k v)
    ∙ clear_number (row k v)
    ∙ ap (λ x. eqb x 0) (number_row k v)
    ∙ sym (eqb_mul (v % 2 ^ k) (2 ^ j) (pow_pos j))
    ∙ ap (λ x. eqb x 0) (sym (mod_shl v k j))

pub clear_behind : (bs : List Bool) (place : ℕ) → length bs ≤ place → clear (drop place bs) ≡ true
unfolding clear
clear_behind bs place h = ap clear (drop_all place bs h)
