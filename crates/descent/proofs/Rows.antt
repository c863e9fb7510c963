-- Rows of a node, by number: where they lie, and the two halves of a row.
use Rattle.std.proofs.Common.{◌≡◌, ℕ, suc, ◌+◌, ◌-◌, ◌*◌, ◌%◌, ◌^◌, ◌<◌, ◌≤◌, Bool, true, false, [], ◌∷◌, ◌++◌, length, refl, sym, ap, ◌∙◌, ap₂, pow-suc, pow_pos, add-one, add-mul, mul_assoc, length-append, mod-eq_of_lt, arith}
use Rattle.std.proofs.Math.Nat.{pow-le-pow_right}
use Rattle.std.proofs.lemmas.Nat.{one_shl}
use Rattle.bits.specs.Rows.{Bits, bit, number, row}
use Rattle.bits.proofs.Rows.{length_row, number_row}
use Rattle.bits.proofs.Orders.{number_lt}
use Rattle.model.specs.Places.{position}
use Rattle.descent.specs.Entries.{IsRow, RowAt}

-- one bit more behind a row
number_push : (p : Bits) (b : Bool) → number (p ++ (b ∷ [])) ≡ number p * 2 + bit b
unfolding number
number_push [] b = omega arith
number_push (x ∷ p) b =
    let longer : length (p ++ (b ∷ [])) ≡ suc (length p) = length-append p (b ∷ []) ∙ add-one (length p) in
    ap₂ (λ k y. bit x * 2 ^ k + y) longer (number_push p b)
    ∙ ap (λ y. bit x * y + (number p * 2 + bit b)) (pow-suc 2 (length p))
    ∙ (let m = mul_assoc (bit x) (2 ^ length p) 2 in let d = add-mul (bit x * 2 ^ length p) (number p) 2 in omega arith)

position_push : (p : Bits) (b : Bool) → position (p ++ (b ∷ [])) ≡ 2 * position p + bit b
position_push p b =
    let longer : length (p ++ (b ∷ [])) ≡ suc (length p) = length-append p (b ∷ []) ∙ add-one (length p) in
    ap₂ (λ k y. 2 ^ k + y) longer (number_push p b) ∙ (let e = pow-suc 2 (length p) in omega arith)

-- ---- where a row lies, and its halves

module _ {s l r : ℕ} (row : IsRow s l r) where
  pub row_some : 0 < r
  row_some = let p : 0 < 2 ^ (s - l) = pow_pos (s - l) in let low = row.low in omega arith

  -- above the children it has a place in the bitmap
  pub row_small : (l ≡ 0 → ⊥) → r < 64
  row_small some =
      let few = row.few in
      let high = row.high in
      let power = pow-le-pow_right {n = 2} (omega arith) {i = s - l} {j = 5} (omega arith) in
      omega arith

  longer : (l ≡ 0 → ⊥) → 2 ^ (s - (l - 1)) ≡ 2 * 2 ^ (s - l)
  longer some =
      let within = row.within in
      let e : s - (l - 1) ≡ suc (s - l) = omega arith in
      ap (λ k. 2 ^ k) e ∙ (let p = pow-suc 2 (s - l) in omega arith)

  pub left_row : (l ≡ 0 → ⊥) → IsRow s (l - 1) (2 * r)
  left_row some =
      let e = longer some in
      let within = row.within in
      let low = row.low in
      let high = row.high in
      record { few = row.few; within = omega arith; low = omega arith; high = omega arith }

  pub right_row : (l ≡ 0 → ⊥) → IsRow s (l - 1) (2 * r + 1)
  right_row some =
      let e = longer some in
      let within = row.within in
      let low = row.low in
      let high = row.high in
      record { few = row.few; within = omega arith; low = omega arith; high = omega arith }

-- behind all bits of the stride it is that of a child
pub child_small : {s r : ℕ} → IsRow s 0 r → r - 1 * 2 ^ s % 2 ^ 8 < 64
child_small {s} {r} row =
    let few = row.few in
    let high = row.high in
    let low = row.low in
    let power = pow-le-pow_right {n = 2} (omega arith) {i = s} {j = 6} few in
    let e : 1 * 2 ^ s % 2 ^ 8 ≡ 2 ^ s = one_shl s 8 (omega arith) in
    let whole : s - 0 ≡ s = omega arith in
    let same : 2 ^ (s - 0) ≡ 2 ^ s = ap (λ k. 2 ^ k) whole in
    rw e (omega arith)

-- ---- the bits of a row, and of its halves

module _ {s l r : ℕ} {bs : Bits} (at : RowAt s l r bs) (some : l ≡ 0 → ⊥) where
  pub left_at : RowAt s (l - 1) (2 * r) (bs ++ (false ∷ []))
  left_at =
      let size = at.size in
      let longer = length-append bs (false ∷ []) in
      record { size = omega arith; is = (let p = position_push bs false in let e = at.is in omega arith) }

  pub right_at : RowAt s (l - 1) (2 * r + 1) (bs ++ (true ∷ []))
  right_at =
      let size = at.size in
      let longer = length-append bs (true ∷ []) in
      record { size = omega arith; is = (let p = position_push bs true in let e = at.is in omega arith) }

-- no bits at all
pub root_at : (s : ℕ) → RowAt s s 1 []
unfolding number
root_at s = record { size = omega arith; is = refl }

-- ---- the bits that go on from a row

-- they begin with this one, and behind it are so many of this number
pub record Split (b : Bool) (more v : ℕ) (cs : Bits) : Type 0 where
  pub rest : Bits
  pub is : cs ≡ b ∷ rest
  pub size : length rest ≡ more
  pub spells : number rest ≡ v

-- by their number: below half of its range they begin with 0, and else with 1
split_low : (cs : Bits) (more v : ℕ) → length cs ≡ more → (more ≡ 0 → ⊥) → number cs ≡ v → v < 2 ^ (more - 1) → Split false (more - 1) v cs
unfolding number
split_low [] more v size some is low = absurd (some (sym size))
split_low (false ∷ cs) more v size some is low = record { rest = cs; is = refl; size = omega arith; spells = omega arith }
split_low (true ∷ cs) more v size some is low =
    let e : 2 ^ (more - 1) ≡ 2 ^ length cs = ap (λ k. 2 ^ k) (omega arith) in absurd (omega arith)

split_high : (cs : Bits) (more v : ℕ) → length cs ≡ more → (more ≡ 0 → ⊥) → number cs ≡ v → 2 ^ (more - 1) ≤ v
    → Split true (more - 1) (v - 2 ^ (more - 1)) cs
unfolding number
split_high [] more v size some is high = absurd (some (sym size))
split_high (false ∷ cs) more v size some is high =
    let e : 2 ^ (more - 1) ≡ 2 ^ length cs = ap (λ k. 2 ^ k) (omega arith) in let small = number_lt cs in absurd (omega arith)
split_high (true ∷ cs) more v size some is high =
    let e : 2 ^ (more - 1) ≡ 2 ^ length cs = ap (λ k. 2 ^ k) (omega arith) in
    record { rest = cs; is = refl; size = omega arith; spells = omega arith }

-- so many bits of a number
pub row_of : (more v : ℕ) → v < 2 ^ more → (x : Bits) × (length x ≡ more) × (number x ≡ v)
row_of more v small = (row more v, length_row more v, number_row more v ∙ mod-eq_of_lt small)

-- ---- as the code splits them, by half of the number's range

module _ {s l r more : ℕ} (row : IsRow s l r) (within : more ≤ l) (some : more ≡ 0 → ⊥) where
  half : 1 * 2 ^ (more - 1) % 2 ^ 8 ≡ 2 ^ (more - 1)
  half = let few = row.few in let in_stride = row.within in one_shl (more - 1) 8 (omega arith)

  pub low_half : {v : ℕ} → v < 1 * 2 ^ (more - 1) % 2 ^ 8 → v < 2 ^ (more - 1)
  low_half {v} low = let e = half in omega arith

  pub high_half : {v : ℕ} → v < 2 ^ more → v - 1 * 2 ^ (more - 1) % 2 ^ 8 < 2 ^ (more - 1)
  high_half {v} small =
      let e = half in
      let whole : more ≡ suc (more - 1) = omega arith in
      let power : 2 ^ more ≡ 2 ^ (more - 1) * 2 = ap (λ k. 2 ^ k) whole ∙ pow-suc 2 (more - 1) in
      let positive : 0 < 2 ^ (more - 1) = pow_pos (more - 1) in
      rw e (omega arith)

  module _ {v : ℕ} {cs : Bits} (size : length cs ≡ more) (spells : number cs ≡ v) where
    pub below_half : v < 1 * 2 ^ (more - 1) % 2 ^ 8 → Split false (more - 1) v cs
    below_half low = split_low cs more v size some spells (low_half low)

    pub from_half : 1 * 2 ^ (more - 1) % 2 ^ 8 ≤ v → Split true (more - 1) (v - 1 * 2 ^ (more - 1) % 2 ^ 8) cs
    from_half high = let e = half in rw e (split_high cs more v size some spells (omega arith))
