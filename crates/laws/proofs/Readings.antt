-- What a reader gives at a place of a message, by the bytes that are left from there on, and what a granted reading says of these bytes.
use Rattle.std.proofs.Common.{◌≡◌, ℕ, zero, suc, ◌+◌, ◌*◌, ◌^◌, ◌<◌, ◌≤◌, Bool, true, false, [], ◌∷◌, ◌++◌, length, take, drop, sym, refl, ap, ◌∙◌, subst, ap₂, append_assoc, arith, length-append, length-drop, take-append-drop, length-take-le, drop-drop, take_at, drop_at, le-leb, leb-true}
use Rattle.faults.specs.declared.Layer.{Layer}
use Rattle.laws.specs.Messages.{Octets}
use Rattle.model.specs.Bytes.{Bytes, big_endian, value}
use Rattle.model.specs.Reading.{bytes, end, must, number_in}
use Rattle.model.specs.Outcomes.{Outcome, granted, refused, and_then, provided}
use Rattle.laws.proofs.Digits.{length_big_endian, value_big_endian, big_endian_value}

-- from a place on, these bytes are left
pub record Left (message : Bytes) (at : ℕ) (rest : Bytes) : Type 0 where
  pub is : drop at message ≡ rest
  pub inside : at ≤ length message

pub left_whole : (message : Bytes) → Left message 0 message
left_whole message = record { is = refl; inside = omega arith }

module _ {message : Bytes} {at : ℕ} where
  -- they reach to the end of the message
  left_length : {rest : Bytes} → Left message at rest → at + length rest ≡ length message
  left_length l = omega (arith, ap length l.is, length-drop at message, l.inside)

  -- what is left behind the first bytes
  pub left_behind : (size : ℕ) (x rest : Bytes) → length x ≡ size → Left message at (x ++ rest) → Left message (at + size) rest
  left_behind size x rest e l =
      record {
        is = sym (drop-drop size at message) ∙ ap (drop size) l.is ∙ drop_at x rest size e;
        inside = omega (arith, left_length l, length-append x rest);
      }

  -- what stands at the place is read: bytes, a number, one byte, the end
  pub bytes_at : (size : ℕ) (x rest : Bytes) → length x ≡ size → Left message at (x ++ rest) → bytes size message at ≡ granted (x, at + size)
  bytes_at size x rest e l =
      let fits = le-leb (at + size) (length message) (omega (arith, left_length l, length-append x rest)) in
      rw (fits, l.is, take_at x rest size e)

  pub number_at : (size n : ℕ) (rest : Bytes) → n < 256 ^ size → Left message at (big_endian size n ++ rest)
      → number_in size message at ≡ granted (n, at + size)
  number_at size n rest h l = rw (bytes_at size (big_endian size n) rest (length_big_endian size n) l, value_big_endian size n h)

  pub byte_at : (n : ℕ) (rest : Bytes) → Left message at (n ∷ rest) → number_in 1 message at ≡ granted (n, at + 1)
  byte_at n rest l =
      let same : n * 1 + 0 ≡ n = omega arith in
      rw (bytes_at 1 (n ∷ []) rest refl l, same)

  pub end_at : Left message at [] → end message at ≡ granted (tt, at)
  end_at l = rw (le-leb (length message) at (omega (arith, left_length l)))

-- what was granted by two steps was granted by each, and what was granted behind a test has passed it
pub both_granted : {A B : Type 0} {goal : Type 0} (x : Outcome A) (f : A → Outcome B) (y : B) → and_then x f ≡ granted y
    → ((a : A) → x ≡ granted a → f a ≡ granted y → goal) → goal
both_granted (granted a) f y e next = next a refl e
both_granted (refused number layer place) f y e next = absurd (let z : ◌≡◌ {A = ℕ} 0 1 = cc in omega arith)

pub passed : {A : Type 0} {goal : Type 0} (t : Bool) (number : ℕ) (layer : Layer) (place : ℕ) (next : Outcome A) (y : A)
    → provided t number layer place next ≡ granted y → (t ≡ true → next ≡ granted y → goal) → goal
passed true number layer place next y e more = more refl e
passed false number layer place next y e more = absurd (let z : ◌≡◌ {A = ℕ} 0 1 = cc in omega arith)

pub must_passed : {B : Type 0} {goal : Type 0} (t : Bool) (number : ℕ) (layer : Layer) (place at : ℕ) (f : Unit {0} × ℕ → Outcome B) (y : B)
    → and_then (must t number layer place [] at) f ≡ granted y → (t ≡ true → f (tt, at) ≡ granted y → goal) → goal
must_passed true number layer place at f y e more = more refl e
must_passed false number layer place at f y e more = absurd (let z : ◌≡◌ {A = ℕ} 0 1 = cc in omega arith)

pub granted_same : {A : Type 0} (x y : A) → granted x ≡ granted y → x ≡ y
granted_same x y e = cc

-- these bytes stand in the message from a place up to another
pub record Stands (message : Bytes) (at : ℕ) (x : Bytes) (to : ℕ) : Type 0 where
  pub is : drop at message ≡ x ++ drop to message
  pub behind : at + length x ≡ to
  pub inside : to ≤ length message

-- every number of a part is one of a byte
octets_behind : (at : ℕ) (bs : Bytes) → Octets bs → Octets (drop at bs)
octets_behind zero bs o = o
octets_behind (suc at) [] o = tt
octets_behind (suc at) (b ∷ bs) o = octets_behind at bs o.1

octets_front : (x rest : Bytes) → Octets (x ++ rest) → Octets x
octets_front [] rest o = tt
octets_front (b ∷ x) rest o = (o.0, octets_front x rest o.1)

module _ {message : Bytes} where
  -- parts that stand one behind the other
  pub stands_none : (at : ℕ) → at ≤ length message → Stands message at [] at
  stands_none at h = record { is = refl; behind = omega arith; inside = h }

  pub stands_both : (at middle to : ℕ) (x y : Bytes) → Stands message at x middle → Stands message middle y to → Stands message at (x ++ y) to
  stands_both at middle to x y s t =
      record {
        is = s.is ∙ ap (λ (r : Bytes). x ++ r) t.is ∙ sym (append_assoc x y (drop to message));
        behind = omega (arith, s.behind, t.behind, length-append x y);
        inside = t.inside;
      }

  pub stands_octets : (at to : ℕ) (x : Bytes) → Octets message → Stands message at x to → Octets x
  stands_octets at to x o s = octets_front x (drop to message) (subst Octets s.is (octets_behind at message o))

  -- the bytes that were read stand there
  pub bytes_read : (size at : ℕ) (x : Bytes) (to : ℕ) → bytes size message at ≡ granted (x, to) → Stands message at x to × (length x ≡ size)
  bytes_read size at x to h = passed _ _ _ _ _ _ h (λ t e.
      let fits = leb-true (at + size) (length message) t in
      let same = granted_same _ _ e in
      let x-is : take size (drop at message) ≡ x = ap (λ (r : Bytes × ℕ). r.0) same in
      let to_is : at + size ≡ to = ap (λ (r : Bytes × ℕ). r.1) same in
      let left = length-drop at message in
      let size_is : length x ≡ size = ap length (sym x-is) ∙ length-take-le size (drop at message) (omega arith) in (
        record {
          is =
              sym (take-append-drop size (drop at message))
              ∙ ap₂ (λ (a b : Bytes). a ++ b) x-is (drop-drop size at message ∙ ap (λ n. drop n message) to_is);
          behind = omega arith;
          inside = omega arith;
        },
        size_is,
      ))

  -- and those of a number that was read
  pub number_read : (size at n to : ℕ) → number_in size message at ≡ granted (n, to)
      → (x : Bytes) × Stands message at x to × (length x ≡ size) × (value x ≡ n)
  number_read size at n to h = both_granted (bytes size message at) _ _ h (λ got e f.
      let same = granted_same _ _ f in
      let n-is : value got.0 ≡ n = ap (λ (r : ℕ × ℕ). r.0) same in
      let to_is : got.1 ≡ to = ap (λ (r : ℕ × ℕ). r.1) same in
      let read = bytes_read size at got.0 got.1 e in
      (got.0, subst (λ (t : ℕ). Stands message at got.0 t) to_is read.0, read.1, n-is))

  pub byte_read : (at n to : ℕ) → number_in 1 message at ≡ granted (n, to) → Stands message at (n ∷ []) to
  byte_read at n to h = by (number_read 1 at n to h).0 (number_read 1 at n to h).1 (number_read 1 at n to h).2 (number_read 1 at n to h).3
    where
      by : (x : Bytes) → Stands message at x to → length x ≡ 1 → value x ≡ n → Stands message at (n ∷ []) to
      by [] s l v = absurd (omega arith)
      by (b ∷ []) s l v = subst (λ (m : ℕ). Stands message at (m ∷ []) to) (let w : b * 1 + 0 ≡ n = v in omega arith) s
      by (b ∷ c ∷ x) s l v = absurd (omega arith)

  -- a number that was read is in its bytes
  pub number_written : (size at n to : ℕ) → Octets message → number_in size message at ≡ granted (n, to) → Stands message at (big_endian size n) to
  number_written size at n to o h =
      let (x, s, l, v) = number_read size at n to h in
      subst (λ (r : Bytes). Stands message at r to) (sym (big_endian_value x (stands_octets at to x o s)) ∙ ap₂ big_endian l v) s

-- a message that was read to its end ends there
pub end_read : (message : Bytes) (at : ℕ) (y : Unit {0} × ℕ) → at ≤ length message → end message at ≡ granted y → at ≡ length message
end_read message at y h e = passed _ _ _ _ _ _ e (λ t f. let over = leb-true (length message) at t in omega arith)
