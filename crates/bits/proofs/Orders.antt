-- The order of rows is strict and total, and of rows of one length it is that of the numbers that they spell.
use Rattle.std.proofs.Common.{◌≡◌, ℕ, ◌+◌, ◌*◌, ◌^◌, ◌<◌, Bool, true, false, List, [], ◌∷◌, ◌++◌, length, Ordering, Less, Equal, Greater, sym, refl, ap, ◌∙◌, subst, mod-eq_of_lt, one-mul, pow-suc, zero-mul, arith}
use Rattle.std.specs.Ordering.{MatchOrdering}
use Rattle.bits.specs.Rows.{Bits, number, row}
use Rattle.bits.specs.Order.{order, flipped, same}
use Rattle.bits.proofs.Rows.{length_row, number_row}

pub order_self : (p : Bits) → order p p ≡ Equal
unfolding order
order_self [] = refl
order_self (false ∷ p) = order_self p
order_self (true ∷ p) = order_self p

pub order_equal : (p q : Bits) → order p q ≡ Equal → p ≡ q
unfolding order
order_equal [] [] h = refl
order_equal [] (c ∷ q) h = cc
order_equal (b ∷ p) [] h = cc
order_equal (false ∷ p) (false ∷ q) h = ap (λ (x : Bits). false ∷ x) (order_equal p q h)
order_equal (false ∷ p) (true ∷ q) h = cc
order_equal (true ∷ p) (false ∷ q) h = cc
order_equal (true ∷ p) (true ∷ q) h = ap (λ (x : Bits). true ∷ x) (order_equal p q h)

pub order_flips : (p q : Bits) → order q p ≡ flipped (order p q)
unfolding order
order_flips [] [] = refl
order_flips [] (c ∷ q) = refl
order_flips (b ∷ p) [] = refl
order_flips (false ∷ p) (false ∷ q) = order_flips p q
order_flips (false ∷ p) (true ∷ q) = refl
order_flips (true ∷ p) (false ∷ q) = refl
order_flips (true ∷ p) (true ∷ q) = order_flips p q

pub order_chains : (p q r : Bits) → order p q ≡ Less → order q r ≡ Less → order p r ≡ Less
unfolding order
order_chains [] [] r h k = cc
order_chains [] (c ∷ q) [] h k = cc
order_chains [] (c ∷ q) (d ∷ r) h k = refl
order_chains (b ∷ p) [] r h k = cc
order_chains (b ∷ p) (c ∷ q) [] h k = cc
order_chains (false ∷ p) (false ∷ q) (false ∷ r) h k = order_chains p q r h k
order_chains (false ∷ p) (false ∷ q) (true ∷ r) h k = refl
order_chains (false ∷ p) (true ∷ q) (false ∷ r) h k = cc
order_chains (false ∷ p) (true ∷ q) (true ∷ r) h k = refl
order_chains (true ∷ p) (false ∷ q) (d ∷ r) h k = cc
order_chains (true ∷ p) (true ∷ q) (false ∷ r) h k = cc
order_chains (true ∷ p) (true ∷ q) (true ∷ r) h k = order_chains p q r h k

-- a case split on how two rows compare
pub data Compared (p q : Bits) : Type 0 where
  less : order p q ≡ Less → Compared p q
  equal : order p q ≡ Equal → Compared p q
  greater : order p q ≡ Greater → Compared p q

pub compared : (p q : Bits) → Compared p q
compared p q = by (order p q) refl
  where
    by : (o : Ordering) → order p q ≡ o → Compared p q
    by Less e = less e
    by Equal e = equal e
    by Greater e = greater e

-- a case split on a test
pub data Decided (t : Bool) : Type 0 where
  holds : t ≡ true → Decided t
  fails : t ≡ false → Decided t

pub decided : (t : Bool) → Decided t
decided true = holds refl
decided false = fails refl

pub order_extends : (p : Bits) (b : Bool) (q : Bits) → order p (p ++ (b ∷ q)) ≡ Less
unfolding order
order_extends [] b q = refl
order_extends (false ∷ p) b q = order_extends p b q
order_extends (true ∷ p) b q = order_extends p b q

-- ---- the test of equality

pub same_self : (p : Bits) → same p p ≡ true
same_self p = rw order_self

pub same_eq : (p q : Bits) → same p q ≡ true → p ≡ q
same_eq p q h = elim (compared p q) [
  | less e ↦ (let wrong = simp e at h in cc)
  | equal e ↦ order_equal p q e
  | greater e ↦ (let wrong = simp e at h in cc)
]

pub same_flips : (p q : Bits) → same q p ≡ same p q
same_flips p q = elim (compared p q) [
  | less e ↦ simp (order_flips p q, e)
  | equal e ↦ simp (order_flips p q, e)
  | greater e ↦ simp (order_flips p q, e)
]

-- ---- rows of one length, and their numbers

pub number_lt : (bs : List Bool) → number bs < 2 ^ length bs
unfolding number
number_lt [] = omega arith
number_lt (true ∷ bs) = let h = number_lt bs in let p = pow-suc 2 (length bs) in let m = one-mul (2 ^ length bs) in omega arith
number_lt (false ∷ bs) = let h = number_lt bs in let p = pow-suc 2 (length bs) in let m = zero-mul (2 ^ length bs) in omega arith

abbrev pub Ranks : Ordering → ℕ → ℕ → Type 0
Ranks o a b = MatchOrdering o (a < b) (a ≡ b) (b < a)

shifted : (o : Ordering) (a b c d e : ℕ) → c ≡ e + a → d ≡ e + b → Ranks o a b → Ranks o c d
shifted Less a b c d e p q h = omega arith
shifted Equal a b c d e p q h = omega arith
shifted Greater a b c d e p q h = omega arith

pub order_ranks : (xs ys : List Bool) → length xs ≡ length ys → Ranks (order xs ys) (number xs) (number ys)
unfolding order number
order_ranks [] [] e = refl
order_ranks [] (y ∷ ys) e = omega arith
order_ranks (x ∷ xs) [] e = omega arith
order_ranks (false ∷ xs) (false ∷ ys) e =
    let l : length xs ≡ length ys = omega arith in
    shifted (order xs ys) (number xs) (number ys) _ _ (0 * 2 ^ length xs) refl (ap (λ k. 0 * 2 ^ k + number ys) (sym l)) (order_ranks xs ys l)
order_ranks (true ∷ xs) (true ∷ ys) e =
    let l : length xs ≡ length ys = omega arith in
    shifted (order xs ys) (number xs) (number ys) _ _ (1 * 2 ^ length xs) refl (ap (λ k. 1 * 2 ^ k + number ys) (sym l)) (order_ranks xs ys l)
order_ranks (false ∷ xs) (true ∷ ys) e =
    let l : length xs ≡ length ys = omega arith in
    let h = number_lt xs in
    let k : 2 ^ length xs ≡ 2 ^ length ys = ap (λ k. 2 ^ k) l in
    let a = zero-mul (2 ^ length xs) in
    let b = one-mul (2 ^ length ys) in
    omega arith
order_ranks (true ∷ xs) (false ∷ ys) e =
    let l : length xs ≡ length ys = omega arith in
    let h = number_lt ys in
    let k : 2 ^ length xs ≡ 2 ^ length ys = ap (λ k. 2 ^ k) l in
    let a = zero-mul (2 ^ length ys) in
    let b = one-mul (2 ^ length xs) in
    omega arith

pub same_rank : (o o' : Ordering) (a b : ℕ) → Ranks o a b → Ranks o' a b → o ≡ o'
same_rank Less Less a b h k = refl
same_rank Less Equal a b h k = absurd (omega arith)
same_rank Less Greater a b h k = absurd (omega arith)
same_rank Equal Less a b h k = absurd (omega arith)
same_rank Equal Equal a b h k = refl
same_rank Equal Greater a b h k = absurd (omega arith)
same_rank Greater Less a b h k = absurd (omega arith)
same_rank Greater Equal a b h k = absurd (omega arith)
same_rank Greater Greater a b h k = refl

-- what `cmp` answers of two numbers is the order of their rows
pub order_row : (n a b : ℕ) (o : Ordering) → a < 2 ^ n → b < 2 ^ n → MatchOrdering o (a < b) (a ≡ b) (b < a) → o ≡ order (row n a) (row n b)
order_row n a b o ha hb r =
    same_rank o (order (row n a) (row n b)) a b r
    (subst (λ y. Ranks (order (row n a) (row n b)) a y) (number_row n b ∙ mod-eq_of_lt hb)
    (subst (λ x. Ranks (order (row n a) (row n b)) x (number (row n b))) (number_row n a ∙ mod-eq_of_lt ha)
    (order_ranks (row n a) (row n b) (length_row n a ∙ sym (length_row n b)))))
