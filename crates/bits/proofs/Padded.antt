-- A row with zeros behind it, cut to a size.
use Rattle.std.proofs.Common.{◌≡◌, ℕ, zero, suc, ◌+◌, ◌-◌, ◌*◌, ◌/◌, ◌^◌, ◌<◌, ◌≤◌, min, Bool, true, false, [], ◌∷◌, ◌++◌, length, take, drop, replicate, sym, refl, ap, ap₂, ◌∙◌, subst, mul_assoc, add-mul, pow-add, append_assoc, suc-add, zero-add, add-one, arith, length-append, take_all, take_at, drop_at, length-take-le}
use lib.ListN.{length-replicate, replicate-append-replicate}
use lib.Seq.{take-append-le, drop-nil}
use lib.Arith.{digits_div}
use Rattle.bits.specs.Rows.{Bits, bit, number, padded, read_group, clear}
use Rattle.bits.proofs.Orders.{number_lt}

-- one zero more behind the row changes nothing
enough : (n : ℕ) (bs : Bits) → take n (bs ++ replicate (suc n) false) ≡ padded n bs
enough n bs =
    let long = length-append bs (replicate n false) in
    let zeros = length-replicate n false in
    let more : replicate (suc n) false ≡ replicate n false ++ replicate 1 false =
    ap (λ k. replicate k false) (sym (add-one n)) ∙ sym (replicate-append-replicate n 1 false) in
    ap (λ (r : Bits). take n (bs ++ r)) more
    ∙ ap (take n) (sym (append_assoc bs (replicate n false) (replicate 1 false)))
    ∙ take-append-le n (bs ++ replicate n false) (replicate 1 false) (omega arith)

-- one bit more: the next of the row, or a zero
pub padded_cons : (n : ℕ) (b : Bool) (bs : Bits) → padded (suc n) (b ∷ bs) ≡ b ∷ padded n bs
padded_cons n b bs = ap (λ (r : Bits). b ∷ r) (enough n bs)

pub length_padded : (size : ℕ) (bs : Bits) → length (padded size bs) ≡ size
length_padded zero bs = refl
length_padded (suc size) [] = ap suc (length_padded size [])
length_padded (suc size) (b ∷ bs) = ap length (padded_cons size b bs) ∙ ap suc (length_padded size bs)

-- a row cut in two
pub padded_more : (n m : ℕ) (bs : Bits) → padded (n + m) bs ≡ padded n bs ++ padded m (drop n bs)
padded_more zero m bs = rw zero-add
padded_more (suc n) m [] =
    rw suc-add (ap (λ (x : Bits). false ∷ x) (padded_more n m [] ∙ ap (λ (x : Bits). padded n [] ++ padded m x) (drop-nil n)))
padded_more (suc n) m (b ∷ bs) =
    rw suc-add
    (padded_cons (n + m) b bs ∙ ap (λ (x : Bits). b ∷ x) (padded_more n m bs)
    ∙ ap (λ (x : Bits). x ++ padded m (drop n bs)) (sym (padded_cons n b bs)))

pub padded_split : (bs : Bits) (m : ℕ) → padded (length bs + m) bs ≡ bs ++ padded m []
padded_split [] m = rw zero-add
padded_split (b ∷ bs) m = rw suc-add (padded_cons (length bs + m) b bs ∙ ap (λ (x : Bits). b ∷ x) (padded_split bs m))

pub clear_padded : (m : ℕ) → clear (padded m []) ≡ true
unfolding clear
clear_padded zero = refl
clear_padded (suc m) = clear_padded m

-- a row of zeros is what stands behind any row
pub padded_clear : (bs : Bits) → clear bs ≡ true → padded (length bs) [] ≡ bs
unfolding clear
padded_clear [] h = refl
padded_clear (true ∷ bs) h = cc
padded_clear (false ∷ bs) h = ap (λ (x : Bits). false ∷ x) (padded_clear bs h)

-- the first bits of a row that has no more, and zeros behind them
pub padded_all : (size len : ℕ) (bs : Bits) → length bs ≡ size → size ≤ len → padded size (take len bs) ≡ bs
padded_all size len bs e h =
    ap (padded size) (take_all len bs (omega arith))
    ∙ take-append-le size bs (replicate size false) (omega arith)
    ∙ take_all size bs (omega arith)

-- behind its first bits stand zeros, so they are a sound prefix; and it begins with them
pub clear_behind_first : (size len : ℕ) (bs : Bits) → len ≤ length bs → len ≤ size → clear (drop len (padded size (take len bs))) ≡ true
clear_behind_first size len bs h k =
    let l : length (take len bs) ≡ len = length-take-le len bs h in
    let e : length (take len bs) + (size - len) ≡ size = omega arith in
    ap (λ i. clear (drop len (padded i (take len bs)))) (sym e)
    ∙ ap (λ r. clear (drop len r)) (padded_split (take len bs) (size - len))
    ∙ ap clear (drop_at (take len bs) (padded (size - len) []) len l)
    ∙ clear_padded (size - len)

pub take_first : (size len : ℕ) (bs : Bits) → len ≤ length bs → len ≤ size → take len (padded size (take len bs)) ≡ take len bs
take_first size len bs h k =
    let l : length (take len bs) ≡ len = length-take-le len bs h in
    let e : length (take len bs) + (size - len) ≡ size = omega arith in
    ap (λ i. take len (padded i (take len bs))) (sym e)
    ∙ ap (take len) (padded_split (take len bs) (size - len))
    ∙ take_at (take len bs) (padded (size - len) []) len l

-- ---- the number of a row in two parts, and of a group's first bits

number_append : (xs ys : Bits) → number (xs ++ ys) ≡ number xs * 2 ^ length ys + number ys
unfolding number
number_append [] ys = omega arith
number_append (x ∷ xs) ys =
    let longer = length-append xs ys in
    ap₂ (λ k y. bit x * 2 ^ k + y) longer (number_append xs ys)
    ∙ ap (λ k. bit x * k + (number xs * 2 ^ length ys + number ys)) (pow-add 2 (length xs) (length ys))
    ∙ (let m = mul_assoc (bit x) (2 ^ length xs) (2 ^ length ys) in let d = add-mul (bit x * 2 ^ length xs) (number xs) (2 ^ length ys) in omega arith)

number_front : (j k : ℕ) (bs : Bits) → number (padded (j + k) bs) / 2 ^ k ≡ number (padded j bs)
number_front j k bs =
    let front = padded j bs in
    let rest = padded k (drop j bs) in
    let size : length rest ≡ k = length_padded k (drop j bs) in
    ap (λ r. number r / 2 ^ k) (padded_more j k bs)
    ∙ ap (λ y. y / 2 ^ k) (number_append front rest ∙ ap (λ i. number front * 2 ^ i + number rest) size)
    ∙ digits_div (number front) (subst (λ i. number rest < 2 ^ i) size (number_lt rest))

pub group_small : (bs : Bits) (place len : ℕ) → len ≤ 6 → read_group bs place len < 2 ^ len
unfolding read_group
group_small bs place len six =
    let m : min len 6 ≡ len = omega arith in
    let row = padded (min len 6) (drop place bs) in
    let size : length row ≡ len = length_padded (min len 6) (drop place bs) ∙ m in
    subst (λ i. number row < 2 ^ i) size (number_lt row)

-- the first bits of a group, by a shift
pub group_front : (bs : Bits) (place len more : ℕ) → len ≤ 6 → more ≤ len → read_group bs place len / 2 ^ (len - more) ≡ read_group bs place more
unfolding read_group
group_front bs place len more six h =
    let m : min len 6 ≡ more + (len - more) = omega arith in
    let n : min more 6 ≡ more = omega arith in
    let r = drop place bs in
    ap (λ i. number (padded i r) / 2 ^ (len - more)) m
    ∙ number_front more (len - more) r
    ∙ ap (λ i. number (padded i r)) (sym n)
