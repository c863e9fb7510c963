-- Numbers and prefixes in bytes read back, and bytes that were read are those that are written.
use Rattle.std.proofs.Common.{◌≡◌, ℕ, zero, suc, ◌+◌, ◌-◌, ◌*◌, ◌/◌, ◌%◌, ◌^◌, ◌<◌, true, false, [], ◌∷◌, ◌++◌, length, take, drop, replicate, sym, refl, ap, ◌∙◌, subst, ap₂, append_assoc, mod-eq_of_lt, mul_assoc, suc-mul, add_comm, arith, lit<, length-append, length-drop, take-append-drop, length-take-le, take_at, drop_at}
use native.Mathlib.Nat.{mod-one, one-le-pow, pow-succ', add-mul-div_right, add-mul-mod_self_right}
use lib.Arith.{digits_lt, digits_div, mod-mul}
use lib.Seq.{drop-append_seam, take-append_seam}
use Rattle.bits.specs.Rows.{Bits, row, clear, number, padded}
use Rattle.bits.proofs.Orders.{number_lt}
use Rattle.bits.proofs.Padded.{length_padded, padded_more, padded_split, clear_padded, padded_clear}
use Rattle.bits.proofs.Prefixes.{row_number}
use Rattle.bits.proofs.Rows.{length_row, number_row}
use Rattle.laws.specs.Messages.{Octets}
use Rattle.model.specs.Bytes.{Bytes, big_endian, byte_count, pack, prefix_bytes, unpack, value}
use Rattle.model.specs.Routes.{prefix_of, sound}

pub length_big_endian : (size n : ℕ) → length (big_endian size n) ≡ size
length_big_endian zero n = refl
length_big_endian (suc size) n = ap suc (length_big_endian size n)

value_low : (size n : ℕ) → value (big_endian size n) ≡ n % 256 ^ size
value_low zero n = sym (mod-one n)
value_low (suc size) n =
    rw (length_big_endian size n, value_low size n)
    (sym (ap (λ x. n % x) (pow-succ' 256 size) ∙ mod-mul n (lit< tt) (one-le-pow size 256 (lit< tt))))

-- a number reads back from as many bytes as hold it
pub value_big_endian : (size n : ℕ) → n < 256 ^ size → value (big_endian size n) ≡ n
value_big_endian size n h = value_low size n ∙ mod-eq_of_lt h

-- bytes are those of the number that they spell
value_lt : (bs : Bytes) → Octets bs → value bs < 256 ^ length bs
value_lt [] o = lit< tt
value_lt (b ∷ bs) o = rw pow-succ' (digits_lt o.0 (value_lt bs o.1))

big_endian_behind : (size q r : ℕ) → big_endian size (q * 256 ^ size + r) ≡ big_endian size r
big_endian_behind zero q r = refl
big_endian_behind (suc size) q r =
    let regroup : q * 256 ^ suc size + r ≡ q * 256 * 256 ^ size + r =
    ap (λ x. x + r) (ap (λ x. q * x) (pow-succ' 256 size) ∙ sym (mul_assoc q 256 (256 ^ size))) in
    ap (big_endian (suc size)) regroup
    ∙ ap₂ (λ x (r : Bytes). x ∷ r)
    (ap (λ x. x / 256 ^ size % 256) (add_comm (q * 256 * 256 ^ size) r)
    ∙ ap (λ x. x % 256) (add-mul-div_right r (q * 256) (one-le-pow size 256 (lit< tt)))
    ∙ add-mul-mod_self_right (r / 256 ^ size) q 256)
    (big_endian_behind size (q * 256) r)

pub big_endian_value : (bs : Bytes) → Octets bs → big_endian (length bs) (value bs) ≡ bs
big_endian_value [] o = refl
big_endian_value (b ∷ bs) o =
    ap₂ (λ x (r : Bytes). x ∷ r)
    (ap (λ x. x % 256) (digits_div b (value_lt bs o.1)) ∙ mod-eq_of_lt o.0)
    (big_endian_behind (length bs) b (value bs) ∙ big_endian_value bs o.1)

-- rows of bits in bytes
pub length_pack : (count : ℕ) (bs : Bits) → length (pack count bs) ≡ count
length_pack zero bs = refl
length_pack (suc count) bs = ap suc (length_pack count (drop 8 bs))

pub length_unpack : (bs : Bytes) → length (unpack bs) ≡ length bs * 8
length_unpack [] = refl
length_unpack (b ∷ bs) =
    let first = length_row 8 b in
    let rest = length_unpack bs in
    let whole = length-append (row 8 b) (unpack bs) in
    omega arith

unpack_pack : (count : ℕ) (bs : Bits) → unpack (pack count bs) ≡ padded (count * 8) bs
unpack_pack zero bs = refl
unpack_pack (suc count) bs =
    ap₂ (λ (x y : Bits). x ++ y)
    (ap (λ n. row n (number (padded 8 bs))) (sym (length_padded 8 bs)) ∙ row_number (padded 8 bs))
    (unpack_pack count (drop 8 bs))
    ∙ sym (padded_more 8 (count * 8) bs)
    ∙ ap (λ n. padded n bs) (let e = suc-mul count 8 in omega arith)

pub pack_unpack : (bs : Bytes) → Octets bs → pack (length bs) (unpack bs) ≡ bs
pack_unpack [] o = refl
pack_unpack (b ∷ bs) o =
    ap₂ (λ x (r : Bytes). x ∷ r)
    (ap number
    (ap (take 8) (append_assoc (row 8 b) (unpack bs) (replicate 8 false)) ∙ take_at (row 8 b) (unpack bs ++ replicate 8 false) 8 (length_row 8 b))
    ∙ number_row 8 b ∙ mod-eq_of_lt o.0)
    (ap (pack (length bs)) (drop_at (row 8 b) (unpack bs) 8 (length_row 8 b)) ∙ pack_unpack bs o.1)

octets_pack : (count : ℕ) (bs : Bits) → Octets (pack count bs)
octets_pack zero bs = tt
octets_pack (suc count) bs = (small, octets_pack count (drop 8 bs))
  where
    small : number (padded 8 bs) < 256
    small = subst (λ n. number (padded 8 bs) < 2 ^ n) (length_padded 8 bs) (number_lt (padded 8 bs))

-- zeros behind the row change nothing
pack_padded : (count : ℕ) (bs : Bits) → pack count (padded (count * 8) bs) ≡ pack count bs
pack_padded count bs =
    ap (pack count) (sym (unpack_pack count bs))
    ∙ ap (λ n. pack n (unpack (pack count bs))) (sym (length_pack count bs))
    ∙ pack_unpack (pack count bs) (octets_pack count bs)

-- the bytes of a prefix give it back, with zeros behind it
unpacked : (p : Bits) → unpack (pack (byte_count (length p)) p) ≡ p ++ padded (byte_count (length p) * 8 - length p) []
unpacked p =
    unpack_pack (byte_count (length p)) p
    ∙ ap (λ n. padded n p) (omega arith)
    ∙ padded_split p (byte_count (length p) * 8 - length p)

pub unpacked_sound : (p : Bits) → sound (unpack (pack (byte_count (length p)) p)) (length p) ≡ true
unpacked_sound p =
    ap (λ (x : Bits). sound x (length p)) (unpacked p)
    ∙ ap clear (drop-append_seam p (padded (byte_count (length p) * 8 - length p) []))
    ∙ clear_padded (byte_count (length p) * 8 - length p)

pub unpacked_prefix : (p : Bits) → prefix_of (unpack (pack (byte_count (length p)) p)) (length p) ≡ p
unpacked_prefix p = ap (take (length p)) (unpacked p) ∙ take-append_seam p (padded (byte_count (length p) * 8 - length p) [])

-- bytes whose bits are sound are those of the prefix that they hold
pub length_held : (len : ℕ) (bs : Bytes) → length bs ≡ byte_count len → length (prefix_of (unpack bs) len) ≡ len
length_held len bs e = length-take-le len (unpack bs) (omega (arith, length_unpack bs))

pub packed_held : (len : ℕ) (bs : Bytes) → Octets bs → length bs ≡ byte_count len → sound (unpack bs) len ≡ true
    → pack (byte_count len) (prefix_of (unpack bs) len) ≡ bs
packed_held len bs o e s =
    let p = prefix_of (unpack bs) len in
    let zeros = drop len (unpack bs) in
    let held = length_held len bs e in
    let all = length_unpack bs in
    let left = length-drop len (unpack bs) in
    let whole : padded (length bs * 8) p ≡ unpack bs =
    ap (λ n. padded n p) (omega arith)
    ∙ padded_split p (length zeros)
    ∙ ap (λ (x : Bits). p ++ x) (padded_clear zeros s)
    ∙ take-append-drop len (unpack bs) in
    ap (λ n. pack n p) (sym e)
    ∙ sym (pack_padded (length bs) p)
    ∙ ap (pack (length bs)) whole
    ∙ pack_unpack bs o

pub prefix_bytes_held : (len : ℕ) (bs : Bytes) → Octets bs → length bs ≡ byte_count len → sound (unpack bs) len ≡ true
    → prefix_bytes (prefix_of (unpack bs) len) ≡ len ∷ bs
unfolding prefix_bytes
prefix_bytes_held len bs o e s =
    let held = length_held len bs e in
    ap₂ (λ x (r : Bytes). x ∷ r) held
    (ap (λ n. pack (byte_count n) (prefix_of (unpack bs) len)) held ∙ packed_held len bs o e s)

pub length_prefix_bytes : (p : Bits) → length (prefix_bytes p) ≡ 1 + byte_count (length p)
unfolding prefix_bytes
length_prefix_bytes p = omega (arith, length_pack (byte_count (length p)) p)
