-- The way to a route beside the one before it: how far two addresses are the same, a group at a time, and which nodes are counted.
use Rattle.std.proofs.Common.{◌≡◌, ℕ, zero, suc, ◌+◌, ◌*◌, ◌^◌, ◌<◌, ◌≤◌, min, Bool, true, false, cond, not, ◌&&◌, ◌||◌, eqb, leb, List, [], ◌∷◌, length, take, drop, get_or, sym, refl, ap, ◌∙◌, subst, suc-add, zero-add, add-one, le_of_suc-le-suc, not-suc-le-zero, arith, length-take, length-take-le}
use Rattle.std.proofs.Math.Seq.{drop-cons}
use Rattle.std.proofs.Math.Dec.{leb-suc-zero, eqb-suc-zero}
use Rattle.std.proofs.lemmas.Bool.{eq-eqb, eqb-true, eqb-false, ne_eqb, leb-true}
use Rattle.bits.specs.Rows.{Bits, bit, number, padded, read_group}
use Rattle.bits.specs.Order.{begins}
use Rattle.bits.proofs.Orders.{holds, fails, decided, number_lt}
use Rattle.bits.proofs.Padded.{length_padded, padded_cons}
use Rattle.bits.proofs.Prefixes.{begins_front, begins_take}
use Rattle.laws.specs.Counts.{count, missing}
use Rattle.laws.proofs.Plans.{planned, ranged}
use Rattle.model.specs.Plans.{in_range, offsets_from, plan_ok}
use Rattle.model.specs.Routes.{route}

-- two numbers and the same more of each, and two of which one is larger by a digit
shifted_same : (k u v m n : ℕ) → m ≡ k + u → n ≡ k + v → eqb m n ≡ eqb u v
shifted_same k u v m n p q = elim (decided (eqb u v)) [
  | holds e ↦ (let is = eqb-true u v e in eq-eqb m n (omega arith) ∙ sym e)
  | fails e ↦ ne_eqb m n (λ z. eqb-false u v e (omega arith)) ∙ sym e
]

apart : (p u v m n : ℕ) → m ≡ 1 * p + u → n ≡ 0 * p + v → v < p → (m ≡ n → ⊥)
apart p u v m n a b l z = omega arith

-- a row with zeros behind it, by its first bit
number_cons : (n : ℕ) (b : Bool) (bs : Bits) → number (padded (suc n) (b ∷ bs)) ≡ bit b * 2 ^ n + number (padded n bs)
unfolding number
number_cons n b bs =
    ap number (padded_cons n b bs) ∙ ap (λ (k : ℕ). bit b * 2 ^ k + number (padded n bs)) (length_padded n bs)

number_below : (n : ℕ) (bs : Bits) → number (padded n bs) < 2 ^ n
number_below n bs = subst (λ (k : ℕ). number (padded n bs) < 2 ^ k) (length_padded n bs) (number_lt (padded n bs))

-- rows of one length, each with zeros behind it, are the same where their numbers are
begins_number : (xs ys : Bits) (n : ℕ) → length xs ≡ length ys → begins (take n xs) ys ≡ eqb (number (padded n ys)) (number (padded n xs))
unfolding begins
begins_number xs ys zero l = sym (eq-eqb (number []) (number []) refl)
begins_number [] [] (suc n) l = sym (eq-eqb (number (padded (suc n) [])) (number (padded (suc n) [])) refl)
begins_number [] (y ∷ ys) (suc n) l = absurd (omega arith)
begins_number (x ∷ xs) [] (suc n) l = absurd (omega arith)
begins_number (false ∷ xs) (false ∷ ys) (suc n) l =
    begins_number xs ys n (omega arith)
    ∙ sym (shifted_same (0 * 2 ^ n) (number (padded n ys)) (number (padded n xs)) _ _ (number_cons n false ys) (number_cons n false xs))
begins_number (false ∷ xs) (true ∷ ys) (suc n) l =
    sym (ne_eqb _ _ (apart (2 ^ n) (number (padded n ys)) (number (padded n xs)) _ _ (number_cons n true ys) (number_cons n false xs) (number_below n xs)))
begins_number (true ∷ xs) (false ∷ ys) (suc n) l =
    sym (ne_eqb _ _ (λ z. apart (2 ^ n) (number (padded n xs)) (number (padded n ys)) _ _ (number_cons n true xs) (number_cons n false ys) (number_below n ys) (sym z)))
begins_number (true ∷ xs) (true ∷ ys) (suc n) l =
    begins_number xs ys n (omega arith)
    ∙ sym (shifted_same (1 * 2 ^ n) (number (padded n ys)) (number (padded n xs)) _ _ (number_cons n true ys) (number_cons n true xs))

-- so many bits more are the same where the group of them is
begins_more : (xs ys : Bits) (o s : ℕ) → length xs ≡ length ys → s ≤ 6
    → begins (take (o + s) xs) ys ≡ (begins (take o xs) ys && eqb (read_group ys o s) (read_group xs o s))
unfolding begins read_group
begins_more xs ys zero s l h =
    let six : s ≡ min s 6 = omega arith in
    ap (λ (i : ℕ). begins (take i xs) ys) (zero-add s)
    ∙ begins_number xs ys s l
    ∙ ap (λ (i : ℕ). eqb (number (padded i ys)) (number (padded i xs))) six
begins_more [] [] (suc o) s l h = rw suc-add (sym (eq-eqb (read_group [] (suc o) s) (read_group [] (suc o) s) refl))
begins_more [] (y ∷ ys) (suc o) s l h = absurd (omega arith)
begins_more (x ∷ xs) [] (suc o) s l h = absurd (omega arith)
begins_more (false ∷ xs) (false ∷ ys) (suc o) s l h = rw suc-add (begins_more xs ys o s (omega arith) h)
begins_more (false ∷ xs) (true ∷ ys) (suc o) s l h = rw suc-add
begins_more (true ∷ xs) (false ∷ ys) (suc o) s l h = rw suc-add
begins_more (true ∷ xs) (true ∷ ys) (suc o) s l h = rw suc-add (begins_more xs ys o s (omega arith) h)

-- the flag of a loop that compares group by group
pub begins_next : (xs ys : Bits) (o s : ℕ) (before after : Bool) → length xs ≡ length ys → s ≤ 6 → before ≡ begins (take o xs) ys
    → after ≡ (before && eqb (read_group ys o s) (read_group xs o s)) → after ≡ begins (take (o + s) xs) ys
begins_next xs ys o s before after l h was e =
    e ∙ ap (λ (t : Bool). t && eqb (read_group ys o s) (read_group xs o s)) was ∙ sym (begins_more xs ys o s l h)

-- a node that one route does not require
pub missing_one : (a b : Bits) (held len hop o : ℕ) → held ≤ length b
    → missing (route (take held b) hop ∷ []) a len o ≡ (leb o len && not (eqb o 0 || begins (take o a) b && leb o held))
missing_one a b held len hop o h =
    let size = length-take-le held b h in
    elim (decided (leb o held)) [
      | holds e ↦
          (let low = leb-true o held e in
          let some = length-take o a in
          let front = begins_take (take o a) b held (omega arith) in
          elim (decided (begins (take o a) b)) [ holds k ↦ simp (size, e, front, k) | fails k ↦ simp (size, e, front, k) ])
      | fails e ↦ elim (decided (begins (take o a) b)) [ holds k ↦ simp (size, e, k) | fails k ↦ simp (size, e, k) ]
    ]

-- and beside no route every node but the root, as if before it stood the whole space, with the same address
pub missing_none : (a : Bits) (len o : ℕ) → missing [] a len o ≡ (leb o len && not (eqb o 0 || begins (take o a) a && leb o 0))
missing_none a len zero = refl
missing_none a len (suc o) = simp (begins_front (suc o) a, leb-suc-zero, eqb-suc-zero)

-- the test of the code is that of the definition, and the count follows it
pub told : (test low root begun same within shared : Bool) → test ≡ (low && not (root || begun && within)) → same ≡ begun
    → shared ≡ (root || same && within) → test ≡ (low && not shared)
told test low root begun same within shared e k h =
    e ∙ ap (λ (t : Bool). low && not (root || t && within)) (sym k) ∙ ap (λ (t : Bool). low && not t) (sym h)

pub passed : (test : Bool) (nodes next : ℕ) → next ≡ nodes + 1 → test ≡ true → next ≡ cond test (suc nodes) nodes
passed test nodes next n e = simp e (n ∙ add-one nodes)

pub failed : (test : Bool) (nodes next : ℕ) → next ≡ nodes → test ≡ false → next ≡ cond test (suc nodes) nodes
failed test nodes next n e = simp e n

-- counting goes on by one offset
pub count_next : (test : ℕ → Bool) (ss : List ℕ) (i o s nodes next all : ℕ) → i < length ss → s ≡ get_or ss i 0 → next ≡ cond (test o) (suc nodes) nodes
    → all ≡ nodes + count test (offsets_from o (drop i ss)) → all ≡ next + count test (offsets_from (o + s) (drop (i + 1) ss))
count_next test ss i o s nodes next all h e n was =
    let rest = count test (offsets_from (o + get_or ss i 0) (drop (suc i) ss)) in
    let cut = was ∙ ap (λ (r : List ℕ). nodes + count test (offsets_from o r)) (drop-cons ss i 0 h) in
    let more : all ≡ next + rest =
    elim (decided (test o)) [
      | holds t ↦ (let one = simp t at n in let whole = simp t at cut in omega arith)
      | fails t ↦ (let none = simp t at n in let whole = simp t at cut in omega arith)
    ] in
    more
    ∙ ap (λ (t : ℕ). next + count test (offsets_from (o + t) (drop (suc i) ss))) (sym e)
    ∙ ap (λ (k : ℕ). next + count test (offsets_from (o + s) (drop k ss))) (sym (add-one i))

-- a stride of a plan takes at most 6 bits
range_small : (ss : List ℕ) (i : ℕ) → in_range ss ≡ true → i < length ss → get_or ss i 0 ≤ 6
range_small [] i g h = absurd (not-suc-le-zero h)
range_small (s ∷ ss) zero g h = (ranged s ss g).high
range_small (s ∷ ss) (suc i) g h = range_small ss i (ranged s ss g).rest (le_of_suc-le-suc h)

pub stride_small : (W : ℕ) (plan : List ℕ) (i s : ℕ) → plan_ok W plan ≡ true → i < length plan → s ≡ get_or plan i 0 → s ≤ 6
stride_small W plan i s ok h e = let small = range_small plan i (planned W plan ok).range h in omega arith
