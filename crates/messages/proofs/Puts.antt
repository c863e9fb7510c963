-- Bytes put into an output, one behind the other.
use Rattle.std.proofs.Common.{◌≡◌, ℕ, ◌+◌, ◌-◌, ◌*◌, ◌^◌, ◌<◌, ◌≤◌, [], ◌∷◌, ◌++◌, length, take, drop, sym, refl, ap, ap₂, ◌∙◌, subst, arith, drop-drop, mod-eq_of_lt, zero, suc, false, replicate, take_all, append_assoc, take_at, drop_at, add-zero, add-one, length-append, take-append-drop, length-take-le, slice_set, get_or, le-leb}
use Rattle.std.proofs.lemmas.Bool.{lt-leb}
use Rattle.std.proofs.lemmas.List.{drop-append-le, set-append_right}
use Rattle.std.proofs.Math.Seq.{drop-cons, set-append_seam}
use lib.ListN.{length-replicate, replicate-append-replicate}
use Rattle.bits.specs.Order.{Sound}
use Rattle.model.specs.Bytes.{Bytes, big_endian, byte_count, pack, prefix_bytes}
use Rattle.faults.specs.declared.Layer.TheVariants.{Table}
use Rattle.faults.specs.Numbers.{too_narrow}
use Rattle.model.specs.Routes.{route}
use Rattle.model.specs.Sheets.{route_bytes}
use Rattle.model.specs.Outcomes.{granted, refused}
use Rattle.messages.specs.Puts.{beside, put_at, put_in}
use Rattle.laws.proofs.Digits.{length_pack}
use Rattle.messages.proofs.Rows.{zeros_enough}
use Rattle.bits.specs.Rows.{Bits, number, padded, read_group, row}
use Rattle.bits.proofs.Orders.{number_lt}
use Rattle.bits.proofs.Padded.{length_padded, padded_clear, padded_more}
use Rattle.bits.proofs.Prefixes.{row_number}
use Rattle.bits.proofs.Rows.{number_row, row_join}

-- zeros behind a row change nothing of it with zeros behind it
zeros_behind : (n m : ℕ) (bs : Bits) → padded n (bs ++ padded m []) ≡ padded n bs
zeros_behind n m bs =
    let all : padded m [] ≡ replicate m false = take_all m (replicate m false) (let l = length-replicate m false in omega arith) in
    let long = length-replicate m false in
    ap (λ (r : Bits). take n ((bs ++ r) ++ replicate n false)) all
    ∙ ap (take n) (append_assoc bs (replicate m false) (replicate n false) ∙ ap (λ (r : Bits). bs ++ r) (replicate-append-replicate m n false))
    ∙ zeros_enough n (m + n) bs (omega arith)

-- two groups of 4 bits are the 8 bits from a place on
pub two_groups : (bs : Bits) (place : ℕ) → 16 * read_group bs place 4 + read_group bs (place + 4) 4 ≡ number (padded 8 (drop place bs))
unfolding read_group
two_groups bs place =
    let x = padded 4 (drop place bs) in
    let y = padded 4 (drop (place + 4) bs) in
    let long-x = length_padded 4 (drop place bs) in
    let long-y = length_padded 4 (drop (place + 4) bs) in
    let small-x : number x < 16 = subst (λ (n : ℕ). number x < 2 ^ n) long-x (number_lt x) in
    let small-y : number y < 16 = subst (λ (n : ℕ). number y < 2 ^ n) long-y (number_lt y) in
    let is-x : row 4 (number x) ≡ x = ap (λ n. row n (number x)) (sym long-x) ∙ row_number x in
    let is-y : row 4 (number y) ≡ y = ap (λ n. row n (number y)) (sym long-y) ∙ row_number y in
    let all : number x * 2 ^ 4 + number y < 2 ^ 8 = omega arith in
    sym
    (ap number (padded_more 4 4 (drop place bs) ∙ ap (λ (r : Bits). x ++ padded 4 r) (drop-drop 4 place bs) ∙ ap₂ (λ (a b : Bits). a ++ b) (sym is-x) (sym is-y)
    ∙ sym (row_join 4 4 (number x) (number y) small-y))
    ∙ number_row 8 (number x * 2 ^ 4 + number y) ∙ mod-eq_of_lt all ∙ omega arith)

-- no bytes, and one more behind those that were put in
pub put_none : (place : ℕ) (output : Bytes) → put_at place [] output ≡ output
put_none place output = ap (λ (k : ℕ). take place output ++ drop k output) (add-zero place) ∙ take-append-drop place output

pub put_one : (place b : ℕ) (xs output : Bytes) → place + length xs < length output
    → slice_set (put_at place xs output) (place + length xs) b ≡ put_at place (xs ++ (b ∷ [])) output
put_one place b xs output inside =
    let front = length-take-le place output (omega arith) in
    let at : place + length xs - place ≡ length xs = omega arith in
    let more = length-append xs (b ∷ []) in
    let next : suc (place + length xs) ≡ place + length (xs ++ (b ∷ [])) = omega arith in
    set-append_right (take place output) (xs ++ drop (place + length xs) output) place (place + length xs) b front (omega arith)
    ∙ ap (λ (k : ℕ). take place output ++ slice_set (xs ++ drop (place + length xs) output) k b) at
    ∙ ap (λ (r : Bytes). take place output ++ slice_set (xs ++ r) (length xs) b) (drop-cons output (place + length xs) 0 inside)
    ∙ ap (λ (r : Bytes). take place output ++ r) (set-append_seam xs (get_or output (place + length xs) 0) (drop (suc (place + length xs)) output) b
    ∙ sym (append_assoc xs (b ∷ []) (drop (suc (place + length xs)) output)))
    ∙ ap (λ (k : ℕ). take place output ++ ((xs ++ (b ∷ [])) ++ drop k output)) next

-- ---- a prefix byte by byte

pub pack_more : (count : ℕ) (p : Bits) → pack (suc count) p ≡ pack count p ++ (number (padded 8 (drop (8 * count) p)) ∷ [])
pack_more zero p = refl
pack_more (suc count) p =
    let next : 8 + 8 * count ≡ 8 * suc count = omega arith in
    ap (λ (r : Bytes). number (padded 8 p) ∷ r)
    (pack_more count (drop 8 p)
    ∙ ap (λ (r : Bits). pack count (drop 8 p) ++ (number (padded 8 r) ∷ [])) (drop-drop (8 * count) 8 p ∙ ap (λ (k : ℕ). drop k p) next))

-- behind a sound prefix the address has zeros, as its bytes have
pub byte_of_prefix : (address : Bits) (len at : ℕ) → Sound address len → at ≤ len → padded 8 (drop at address) ≡ padded 8 (drop at (take len address))
byte_of_prefix address len at s inside =
    let p = take len address in
    let long = length-take-le len address s.0 in
    let whole : address ≡ p ++ padded (length (drop len address)) [] =
    sym (take-append-drop len address) ∙ ap (λ (r : Bits). p ++ r) (sym (padded_clear (drop len address) s.1)) in
    ap (λ (r : Bits). padded 8 (drop at r)) whole
    ∙ ap (padded 8) (drop-append-le at p (padded (length (drop len address)) []) (omega arith))
    ∙ zeros_behind 8 (length (drop len address)) (drop at p)

-- a prefix that is put in
module _ (address : Bits) (len : ℕ) (s : Sound address len) (place : ℕ) (output : Bytes) where
  abbrev pub bytes : Bytes
  bytes = prefix_bytes (take len address)

  pub prefix_long : length bytes ≡ 1 + byte_count len
  unfolding prefix_bytes
  prefix_long =
      let long = length-take-le len address s.0 in
      ap suc (length_pack (byte_count (length (take len address))) (take len address)) ∙ ap (λ (l : ℕ). suc (byte_count l)) long ∙ omega arith

  pub length_put : place + 1 ≤ length output → slice_set output place len ≡ put_at place (len ∷ []) output
  length_put room =
      let at : place ≡ place + 0 = omega arith in
      ap₂ (λ (r : Bytes) (k : ℕ). slice_set r k len) (sym (put_none place output)) at
      ∙ put_one place len [] output (omega arith)

  pub byte_put : (i b : ℕ) (now : Bytes) → now ≡ put_at place (len ∷ pack i (take len address)) output → i < byte_count len
      → place + 1 + byte_count len ≤ length output → b ≡ number (padded 8 (drop (8 * i) address))
      → slice_set now (place + 1 + i) b ≡ put_at place (len ∷ pack (i + 1) (take len address)) output
  byte_put i b now is more room value =
      let p = take len address in
      let long = length_pack i p in
      let at : place + 1 + i ≡ place + length (len ∷ pack i p) = omega arith in
      ap₂ (λ (r : Bytes) (k : ℕ). slice_set r k b) is at
      ∙ put_one place b (len ∷ pack i p) output (omega arith)
      ∙ ap (λ (x : ℕ). put_at place (len ∷ (pack i p ++ (x ∷ []))) output) (value ∙ ap number (byte_of_prefix address len (8 * i) s (omega arith)))
      ∙ ap (λ (r : Bytes). put_at place (len ∷ r) output) (sym (pack_more i p) ∙ ap (λ (k : ℕ). pack k p) (sym (add-one i)))

  pub all_put : (i : ℕ) (now : Bytes) → now ≡ put_at place (len ∷ pack i (take len address)) output → i ≡ byte_count len → now ≡ put_at place bytes output
  unfolding prefix_bytes
  all_put i now is whole =
      let long = length-take-le len address s.0 in
      is ∙ ap₂ (λ (x y : ℕ). put_at place (x ∷ pack y (take len address)) output) (sym long) (whole ∙ ap byte_count (sym long))

-- one behind the other
pub put_both : (place : ℕ) (xs ys output : Bytes) → place + length xs + length ys ≤ length output
    → put_at (place + length xs) ys (put_at place xs output) ≡ put_at place (xs ++ ys) output
put_both place xs ys output room =
    let front = length-take-le place output (omega arith) in
    let both = length-append (take place output) xs in
    let rest = drop (place + length xs) output in
    let all = length-append xs ys in
    let end : place + length xs + length ys ≡ place + length (xs ++ ys) = omega arith in
    let apart : put_at place xs output ≡ (take place output ++ xs) ++ rest = sym (append_assoc (take place output) xs rest) in
    ap (put_at (place + length xs) ys) apart
    ∙ ap₂ (λ (a b : Bytes). a ++ (ys ++ b)) (take_at (take place output ++ xs) rest (place + length xs) (omega arith))
    (sym (drop-drop (length ys) (place + length xs) ((take place output ++ xs) ++ rest))
    ∙ ap (drop (length ys)) (drop_at (take place output ++ xs) rest (place + length xs) (omega arith))
    ∙ drop-drop (length ys) (place + length xs) output
    ∙ ap (λ (k : ℕ). drop k output) end)
    ∙ append_assoc (take place output) xs (ys ++ drop (place + length (xs ++ ys)) output)
    ∙ ap (λ (r : Bytes). take place output ++ r) (sym (append_assoc xs ys (drop (place + length (xs ++ ys)) output)))

-- a route: its prefix, and its hop behind that
module _ (place size hop : ℕ) (p : Bits) (output : Bytes) (long : size ≡ 3 + byte_count (length p)) where
  route_long : length (route_bytes (route p hop)) ≡ size
  unfolding route_bytes prefix_bytes
  route_long =
      let packed = length_pack (byte_count (length p)) p in
      let both = length-append (pack (byte_count (length p)) p) (big_endian 2 hop) in
      omega arith

  pub no_room : length output < place + size → put_in place (route_bytes (route p hop)) output ≡ refused too_narrow Table 0
  no_room short = let l = route_long in rw (lt-leb (place + length (route_bytes (route p hop))) (length output) (omega arith))

  pub route_put : place + size ≤ length output → (now final : Bytes) → now ≡ put_at place (prefix_bytes p) output
      → final ≡ put_at (place + size - 2) (big_endian 2 hop) now
      → granted (beside final (place + size)) ≡ put_in place (route_bytes (route p hop)) output
  unfolding route_bytes
  route_put room now final prefix behind =
      let l = route_long in
      let both = length-append (prefix_bytes p) (big_endian 2 hop) in
      let at : place + size - 2 ≡ place + length (prefix_bytes p) = omega arith in
      let end : place + size ≡ place + length (route_bytes (route p hop)) = omega arith in
      rw (le-leb (place + length (route_bytes (route p hop))) (length output) (omega arith))
      (ap₂ (λ (o : Bytes) (k : ℕ). granted (k, o))
      (behind
      ∙ ap₂ (λ (k : ℕ) (o : Bytes). put_at k (big_endian 2 hop) o) at prefix
      ∙ put_both place (prefix_bytes p) (big_endian 2 hop) output (omega arith))
      end)
