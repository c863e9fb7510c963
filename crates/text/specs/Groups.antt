-- The groups of a number, and the row of bits that they form.
use Rattle.std.specs.Prelude.{◌≡◌, ℕ, zero, suc, ◌+◌, ◌-◌, ◌*◌, ◌/◌, ◌%◌, ◌^◌, ◌<◌, ◌≤◌, List, [], ◌∷◌, ◌++◌, length, replicate, Option, Some, refl}
use Rattle.std.proofs.Common.{sym, ap, ap₂, ◌∙◌, zero-add, suc-add, zero-mul, div-one, mod-eq_of_lt, arith, pow_mono, shr-shr}
use Rattle.std.proofs.Math.Nat.{mod-mod, zero-div}
use Rattle.std.proofs.Math.Pow.{high, low, field, mod-mod-pow}
use Rattle.std.specs.List.{flat_map}
use Rattle.bits.specs.Rows.{row}
use Rattle.bits.proofs.Rows.{row_split, row_mod}
use Rattle.text.specs.Colons.{low_groups, groups}

pub length_low : (n v : ℕ) → length (low_groups n v) ≡ n
unfolding low_groups
length_low zero v = refl
length_low (suc n) v = ap suc (length_low n v)

pub length_groups : (high low : ℕ) → length (groups high low) ≡ 8
unfolding groups
length_groups high low = length_low 8 (high * 2 ^ 64 + low)

low_mod : (n v : ℕ) → low_groups n (v % 2 ^ (16 * n)) ≡ low_groups n v
unfolding low_groups
low_mod zero v = refl
low_mod (suc n) v =
    let e : 16 * suc n ≡ 16 + 16 * n = omega arith in
    ap₂ (λ g gs. g ∷ gs)
    (ap (λ k. v % 2 ^ k / 2 ^ (16 * n) % 2 ^ 16) e ∙ ap (λ x. x % 2 ^ 16) (field v 16 (16 * n)) ∙ mod-mod (v / 2 ^ (16 * n)) (2 ^ 16))
    (sym (low_mod n (v % 2 ^ (16 * suc n))) ∙ ap (low_groups n) (ap (λ k. v % 2 ^ k % 2 ^ (16 * n)) e ∙ mod-mod-pow v 16 (16 * n)) ∙ low_mod n v)

-- groups in two parts
pub low_join : (a b x y : ℕ) → y < 2 ^ (16 * b) → low_groups (a + b) (x * 2 ^ (16 * b) + y) ≡ low_groups a x ++ low_groups b y
unfolding low_groups
low_join zero b x y h =
    ap (λ n. low_groups n (x * 2 ^ (16 * b) + y)) (zero-add b)
    ∙ sym (low_mod b (x * 2 ^ (16 * b) + y))
    ∙ ap (low_groups b) (low x (16 * b) h)
low_join (suc a) b x y h =
    let v = x * 2 ^ (16 * b) + y in
    let e : 16 * (a + b) ≡ 16 * b + 16 * a = omega arith in
    ap (λ n. low_groups n v) (suc-add a b)
    ∙ ap₂ (λ g gs. g % 2 ^ 16 ∷ gs)
    (ap (λ k. v / 2 ^ k) e ∙ sym (shr-shr v (16 * b) (16 * a)) ∙ ap (λ z. z / 2 ^ (16 * a)) (high x (16 * b) h))
    (low_join a b x y h)

pub low_one : (g : ℕ) → g < 2 ^ 16 → low_groups 1 g ≡ g ∷ []
unfolding low_groups
low_one g h = ap (λ x. x ∷ []) (ap (λ x. x % 2 ^ 16) (div-one g) ∙ mod-eq_of_lt h)

-- one group more
pub low_more : (n v g : ℕ) → g < 2 ^ 16 → low_groups (n + 1) (v * 65536 + g) ≡ low_groups n v ++ g ∷ []
low_more n v g h = low_join n 1 v g h ∙ ap (λ l. low_groups n v ++ l) (low_one g h)

low_zero : (n : ℕ) → low_groups n 0 ≡ replicate n 0
unfolding low_groups
low_zero zero = refl
low_zero (suc n) = ap₂ (λ g gs. g ∷ gs) (ap (λ x. x % 2 ^ 16) (zero-div (2 ^ (16 * n)))) (low_zero n)

-- groups, zeros, and groups
pub low_filled : (a b x y : ℕ) → a + b ≤ 8 → y < 2 ^ (16 * b)
    → low_groups 8 (x * 2 ^ (16 * (8 - a)) + y) ≡ low_groups a x ++ (replicate (8 - (a + b)) 0 ++ low_groups b y)
low_filled a b x y h l =
    let eight : a + (8 - a) ≡ 8 = omega arith in
    let rest : 8 - (a + b) + b ≡ 8 - a = omega arith in
    let more : 16 * b ≤ 16 * (8 - a) = omega arith in
    let up : 2 ^ (16 * b) ≤ 2 ^ (16 * (8 - a)) = pow_mono more in
    let l' : y < 2 ^ (16 * (8 - a)) = omega arith in
    let z : y ≡ 0 * 2 ^ (16 * b) + y = omega (arith, zero-mul (2 ^ (16 * b))) in
    ap (λ n. low_groups n (x * 2 ^ (16 * (8 - a)) + y)) (sym eight)
    ∙ low_join a (8 - a) x y l'
    ∙ ap (λ r. low_groups a x ++ r)
    (ap₂ low_groups (sym rest) z
    ∙ low_join (8 - (a + b)) b 0 y l
    ∙ ap (λ r. r ++ low_groups b y) (low_zero (8 - (a + b))))

-- the bits of a number, group by group
pub row_groups : (n v : ℕ) → row (16 * n) v ≡ flat_map (row 16) (low_groups n v)
unfolding low_groups row
row_groups zero v = refl
row_groups (suc n) v =
    let e : 16 * suc n ≡ 16 + 16 * n = omega arith in
    ap (λ k. row k v) e
    ∙ row_split 16 (16 * n) v
    ∙ ap₂ (λ a b. a ++ b) (sym (row_mod 16 (v / 2 ^ (16 * n)))) (row_groups n v)

-- equal groups, equal bits
pub row_from_groups : (h l h' l' : ℕ) → groups h l ≡ groups h' l' → row 128 (h * 2 ^ 64 + l) ≡ row 128 (h' * 2 ^ 64 + l')
unfolding groups
row_from_groups h l h' l' e = row_groups 8 (h * 2 ^ 64 + l) ∙ ap (flat_map (row 16)) e ∙ sym (row_groups 8 (h' * 2 ^ 64 + l'))

-- what reads as the groups of two numbers: they have one row
pub one_row : (h l h' l' : ℕ) (read : Option (List ℕ)) → read ≡ Some (groups h l) → read ≡ Some (groups h' l')
    → row 128 (h * 2 ^ 64 + l) ≡ row 128 (h' * 2 ^ 64 + l')
one_row h l h' l' read p q =
    let same : groups h l ≡ groups h' l' = cc (sym p ∙ q) in
    row_from_groups h l h' l' same
