-- Eight groups from what was read of a text.
use Rattle.std.specs.Prelude.{◌≡◌, ℕ, ◌+◌, ◌-◌, ◌*◌, ◌%◌, ◌^◌, ◌<◌, ◌≤◌, cond, List, ◌++◌, length, replicate, Some, None, Option, ◌≢◌, bit_or, refl}
use Rattle.std.proofs.Common.{sym, ap, ap₂, subst, ◌∙◌, mul_assoc, arith, pow-add, pow_mono, shl_lt}
use Rattle.std.proofs.lemmas.Nat.{or_shifted, shl_whole}
use Rattle.std.proofs.lemmas.Bool.{eq-eqb, ne_eqb, lt-ltb, le-ltb}
use Rattle.text.specs.Colons.{low_groups, groups}
use Rattle.text.specs.Words.{whole, filled, by_parts, parts, read_colons, Beyond}
use Rattle.text.specs.Groups.{length_low, low_filled}

pub spread_is : (a b x y : ℕ) → a + b ≤ 7 → x < 2 ^ (16 * a) → y < 2 ^ (16 * b)
    → bit_or (((x * 2 ^ (16 * (7 - a))) % 2 ^ 128 * 2 ^ 16) % 2 ^ 128) y ≡ x * 2 ^ (16 * (8 - a)) + y
spread_is a b x y h hx hy =
    let e : 16 * a + 16 * (7 - a) ≡ 112 = omega arith in
    let f : 16 * (7 - a) + 16 ≡ 16 * (8 - a) = omega arith in
    let m : 16 * b ≤ 16 * (8 - a) = omega arith in
    let up : 2 ^ (16 * b) ≤ 2 ^ (16 * (8 - a)) = pow_mono m in
    let l : x * 2 ^ (16 * (7 - a)) < 2 ^ 112 = subst (λ k. x * 2 ^ (16 * (7 - a)) < 2 ^ k) e (shl_lt (16 * a) (16 * (7 - a)) hx) in
    ap (λ z. bit_or ((z * 2 ^ 16) % 2 ^ 128) y) (shl_whole x (16 * a) (16 * (7 - a)) 128 hx (omega arith))
    ∙ ap (λ z. bit_or z y)
    (shl_whole (x * 2 ^ (16 * (7 - a))) 112 16 128 l (omega arith)
    ∙ mul_assoc x (2 ^ (16 * (7 - a))) (2 ^ 16)
    ∙ ap (λ z. x * z) (sym (pow-add 2 (16 * (7 - a)) 16) ∙ ap (λ k. 2 ^ k) f))
    ∙ or_shifted x (16 * (8 - a)) y (omega arith)

groups_is : (h l n : ℕ) → h * 2 ^ 64 + l ≡ n → groups h l ≡ low_groups 8 n
unfolding groups
groups_is h l n e = ap (low_groups 8) e

-- ---- no group left out

pub whole_eight : (o : Option (List ℕ)) (count n h l : ℕ) → o ≡ Some (low_groups count n) → count ≡ 8 → h * 2 ^ 64 + l ≡ n → whole o ≡ Some (groups h l)
whole_eight o count n h l e c is =
    let q = length_low 8 n in
    ap whole (e ∙ ap (λ k. Some (low_groups k n)) c)
    ∙ ap (λ t. cond t (Some (low_groups 8 n)) None) (eq-eqb (length (low_groups 8 n)) 8 q)
    ∙ ap (λ gs. Some gs) (sym (groups_is h l n is))

pub whole_few : (o : Option (List ℕ)) (count n : ℕ) → o ≡ Some (low_groups count n) → (count ≢ 8) → whole o ≡ None
whole_few o count n e c =
    let q = length_low count n in
    ap whole e ∙ ap (λ t. cond t (Some (low_groups count n)) None) (ne_eqb (length (low_groups count n)) 8 (λ z. c (sym q ∙ z)))

pub whole_beyond : (o : Option (List ℕ)) → Beyond 8 o → whole o ≡ None
whole_beyond None h = refl
whole_beyond (Some gs) h = ap (λ t. cond t (Some gs) None) (ne_eqb (length gs) 8 (λ e. omega arith))

-- ---- groups left out

pub filled_both : (o p : Option (List ℕ)) (a b x y h l : ℕ) → o ≡ Some (low_groups a x) → p ≡ Some (low_groups b y) → a + b ≤ 7 → y < 2 ^ (16 * b)
    → h * 2 ^ 64 + l ≡ x * 2 ^ (16 * (8 - a)) + y → filled o p ≡ Some (groups h l)
filled_both o p a b x y h l e f few hy is =
    let gs = low_groups a x in
    let hs = low_groups b y in
    let la : length gs ≡ a = length_low a x in
    let lb : length hs ≡ b = length_low b y in
    ap₂ filled e f
    ∙ ap (λ t. cond t (Some (gs ++ (replicate (8 - (length gs + length hs)) 0 ++ hs))) None) (lt-ltb (length gs + length hs) 8 (omega arith))
    ∙ ap₂ (λ i j. Some (gs ++ (replicate (8 - (i + j)) 0 ++ hs))) la lb
    ∙ ap (λ r. Some r) (sym (groups_is h l (x * 2 ^ (16 * (8 - a)) + y) is ∙ low_filled a b x y (omega arith) hy))

over : (gs hs : List ℕ) → 8 ≤ length gs + length hs → filled (Some gs) (Some hs) ≡ None
over gs hs h = ap (λ t. cond t (Some (gs ++ (replicate (8 - (length gs + length hs)) 0 ++ hs))) None) (le-ltb (length gs + length hs) 8 h)

beyond_right : (gs : List ℕ) (p : Option (List ℕ)) (most : ℕ) → length gs + most ≡ 7 → Beyond most p → filled (Some gs) p ≡ None
beyond_right gs None most few h = refl
beyond_right gs (Some hs) most few h = over gs hs (omega arith)

pub filled_right : (o p : Option (List ℕ)) (a x : ℕ) → o ≡ Some (low_groups a x) → a ≤ 7 → Beyond (7 - a) p → filled o p ≡ None
filled_right o p a x e few h =
    let q = length_low a x in
    ap (λ z. filled z p) e ∙ beyond_right (low_groups a x) p (7 - a) (omega arith) h

pub filled_left : (o p : Option (List ℕ)) → Beyond 7 o → filled o p ≡ None
filled_left None p h = refl
filled_left (Some gs) None h = refl
filled_left (Some gs) (Some hs) h = over gs hs (omega arith)

-- ---- both

pub read_by : (t : List ℕ) (o : Option (List ℕ × List ℕ)) → parts t ≡ o → read_colons t ≡ by_parts t o
unfolding read_colons
read_by t o e = ap (by_parts t) e
