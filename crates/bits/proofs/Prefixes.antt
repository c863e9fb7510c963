-- Laws of prefixes as rows of bits.
use Rattle.std.proofs.Common.{◌≡◌, ℕ, zero, suc, ◌+◌, ◌-◌, ◌*◌, ◌%◌, ◌^◌, ◌<◌, ◌≤◌, min, Bool, true, false, eqb, ◌⊎◌, List, [], ◌∷◌, ◌++◌, length, take, drop, replicate, Ordering, Less, Equal, Greater, sym, refl, ap, ◌∙◌, subst, ap₂, inl, inr, ⊎_elim, arith, length-drop, length-take, take_all, take-take, take-add}
use Rattle.std.proofs.lemmas.Bool.{cases_lt}
use lib.Pow.{high, low}
use Rattle.std.proofs.lemmas.List.{drop-take}
use Rattle.std.specs.Ordering.{ordering_then, nat_cmp}
use Rattle.std.proofs.lemmas.Cmp.{ranked}
use Rattle.bits.specs.Rows.{Bits, bit, number, row, read_group, clear}
use Rattle.bits.specs.Order.{order, begins, sizes, by_address, Sound}
use Rattle.bits.proofs.Rows.{row_mod}
use Rattle.bits.proofs.Groups.{read_inside}
use Rattle.bits.proofs.Orders.{number_lt, Ranks, same_rank, holds, fails, decided}

bit_back : (b : Bool) → eqb (bit b % 2) 1 ≡ b
bit_back true = refl
bit_back false = refl

pub row_number : (bs : List Bool) → row (length bs) (number bs) ≡ bs
unfolding row number
row_number [] = refl
row_number (b ∷ bs) =
    let l = length bs in
    ap₂ (λ x r. x ∷ r)
    (ap (λ x. eqb (x % 2) 1) (high (bit b) l (number_lt bs)) ∙ bit_back b)
    (sym (row_mod l (bit b * 2 ^ l + number bs)) ∙ ap (row l) (low (bit b) l (number_lt bs)) ∙ row_number bs)

pub same_number : (xs ys : List Bool) → length xs ≡ length ys → number xs ≡ number ys → xs ≡ ys
same_number xs ys l e = sym (row_number xs) ∙ ap₂ row l e ∙ row_number ys

-- ---- the order of sound prefixes

true_clear : (bs : List Bool) {A : Type 0} → clear (true ∷ bs) ≡ true → A
unfolding clear
true_clear bs h = let z : ◌≡◌ {A = ℕ} 0 1 = cc in absurd (omega arith)

both_clear : (a b : List Bool) → length a ≡ length b → clear a ≡ true → clear b ≡ true → order a b ≡ Equal
unfolding clear order
both_clear [] [] e h k = refl
both_clear [] (y ∷ b) e h k = absurd (omega arith)
both_clear (x ∷ a) [] e h k = absurd (omega arith)
both_clear (false ∷ a) (false ∷ b) e h k = both_clear a b (omega arith) h k
both_clear (true ∷ a) (y ∷ b) e h k = true_clear a h
both_clear (false ∷ a) (true ∷ b) e h k = true_clear b k

first_clear : (a b : List Bool) → length a ≡ length b → clear a ≡ true → ordering_then (order a b) Less ≡ Less
unfolding clear order
first_clear [] [] e h = refl
first_clear [] (y ∷ b) e h = absurd (omega arith)
first_clear (x ∷ a) [] e h = absurd (omega arith)
first_clear (false ∷ a) (false ∷ b) e h = first_clear a b (omega arith) h
first_clear (false ∷ a) (true ∷ b) e h = refl
first_clear (true ∷ a) (y ∷ b) e h = true_clear a h

second_clear : (a b : List Bool) → length a ≡ length b → clear b ≡ true → ordering_then (order a b) Greater ≡ Greater
unfolding clear order
second_clear [] [] e k = refl
second_clear [] (y ∷ b) e k = absurd (omega arith)
second_clear (x ∷ a) [] e k = absurd (omega arith)
second_clear (false ∷ a) (false ∷ b) e k = second_clear a b (omega arith) k
second_clear (true ∷ a) (false ∷ b) e k = refl
second_clear (x ∷ a) (true ∷ b) e k = true_clear b k

-- on sound prefixes, by address and then shorter first is the order of their bits
pub prefix_order : (a b : List Bool) (l m : ℕ) → length a ≡ length b → Sound a l → Sound b m → by_address a l b m ≡ order (take l a) (take m b)
unfolding sizes order
prefix_order [] [] zero zero e s t = refl
prefix_order [] [] (suc l) m e s t = absurd (omega arith)
prefix_order [] [] zero (suc m) e s t = absurd (omega arith)
prefix_order [] (y ∷ b) l m e s t = absurd (omega arith)
prefix_order (x ∷ a) [] l m e s t = absurd (omega arith)
prefix_order (x ∷ a) (y ∷ b) zero zero e s t = ap (λ o. ordering_then o Equal) (both_clear (x ∷ a) (y ∷ b) e s.1 t.1)
prefix_order (x ∷ a) (y ∷ b) zero (suc m) e s t = first_clear (x ∷ a) (y ∷ b) e s.1
prefix_order (x ∷ a) (y ∷ b) (suc l) zero e s t = second_clear (x ∷ a) (y ∷ b) e t.1
prefix_order (false ∷ a) (false ∷ b) (suc l) (suc m) e s t = prefix_order a b l m (omega arith) (omega arith, s.1) (omega arith, t.1)
prefix_order (false ∷ a) (true ∷ b) (suc l) (suc m) e s t = refl
prefix_order (true ∷ a) (false ∷ b) (suc l) (suc m) e s t = refl
prefix_order (true ∷ a) (true ∷ b) (suc l) (suc m) e s t = prefix_order a b l m (omega arith) (omega arith, s.1) (omega arith, t.1)

-- ---- what the code meets

one_more : (o : Ordering) (l m : ℕ) → Ranks o l m → Ranks o (suc l) (suc m)
one_more Less l m h = omega arith
one_more Equal l m h = omega arith
one_more Greater l m h = omega arith

sizes_ranks : (l m : ℕ) → Ranks (sizes l m) l m
unfolding sizes
sizes_ranks zero zero = refl
sizes_ranks zero (suc m) = omega arith
sizes_ranks (suc l) zero = omega arith
sizes_ranks (suc l) (suc m) = one_more (sizes l m) l m (sizes_ranks l m)

pub sizes_is : (l m : ℕ) → nat_cmp l m ≡ sizes l m
sizes_is l m = same_rank (nat_cmp l m) (sizes l m) l m (ranked l m (nat_cmp l m) refl) (sizes_ranks l m)

-- the number of the bits between two places, as a group
pub between : (bs : List Bool) (from to : ℕ) → from ≤ to → to ≤ from + 6 → to ≤ length bs → read_group bs from (to - from) ≡ number (drop from (take to bs))
between bs from to a b c =
    let e : from + (to - from) ≡ to = omega arith in
    read_inside bs from (to - from) (omega arith) (omega arith)
    ∙ ap number (sym (drop-take from (to - from) bs))
    ∙ ap (λ i. number (drop from (take i bs))) e

-- the first bits of rows, when the rows end
pub take_more_than : (xs : List Bool) (n w len : ℕ) → length xs ≡ w → n ≡ min len w → take len xs ≡ take n xs
take_more_than xs n w len lw e =
    let c : (len ≤ w) ⊎ (w < len) = ⊎_elim inr (λ h. inl h) (cases_lt w len) in
    ⊎_elim
    (λ h. ap (λ i. take i xs) (omega arith))
    (λ h. take_all len xs (omega arith) ∙ sym (take_all n xs (omega arith)))
    c

-- ---- a row that begins another

pub begins_front : (n : ℕ) (ys : Bits) → begins (take n ys) ys ≡ true
unfolding begins
begins_front zero ys = refl
begins_front (suc n) [] = refl
begins_front (suc n) (false ∷ ys) = begins_front n ys
begins_front (suc n) (true ∷ ys) = begins_front n ys

pub front_from_begins : (xs ys : Bits) → begins xs ys ≡ true → take (length xs) ys ≡ xs
unfolding begins
front_from_begins [] ys h = refl
front_from_begins (x ∷ xs) [] h = cc
front_from_begins (false ∷ xs) (false ∷ ys) h = ap (λ (r : Bits). false ∷ r) (front_from_begins xs ys h)
front_from_begins (false ∷ xs) (true ∷ ys) h = cc
front_from_begins (true ∷ xs) (false ∷ ys) h = cc
front_from_begins (true ∷ xs) (true ∷ ys) h = ap (λ (r : Bits). true ∷ r) (front_from_begins xs ys h)

-- whether a row begins another shows in as many bits as it has
pub begins_take : (xs ys : Bits) (n : ℕ) → length xs ≤ n → begins xs (take n ys) ≡ begins xs ys
unfolding begins
begins_take [] ys n h = refl
begins_take (x ∷ xs) ys zero h = absurd (omega arith)
begins_take (x ∷ xs) [] (suc n) h = refl
begins_take (false ∷ xs) (false ∷ ys) (suc n) h = begins_take xs ys n (omega arith)
begins_take (false ∷ xs) (true ∷ ys) (suc n) h = refl
begins_take (true ∷ xs) (false ∷ ys) (suc n) h = refl
begins_take (true ∷ xs) (true ∷ ys) (suc n) h = begins_take xs ys n (omega arith)

-- at most 6 bits are read
read_six : (bs : List Bool) (p len : ℕ) → read_group bs p len ≡ read_group bs p (min len 6)
unfolding read_group
read_six bs p len = ap (λ i. number (take i (drop p bs ++ replicate i false))) (omega arith)

-- two rows of one length, and the first bits of one, of which end are there
module _ (xs ys : Bits) (same : length xs ≡ length ys) (len end : ℕ) (there : end ≡ min len (length xs)) where
  pub begins_same : take end xs ≡ take end ys → begins (take len xs) ys ≡ true
  begins_same front =
      ap (λ (r : Bits). begins r ys)
      (take_more_than xs end (length xs) len refl there ∙ front ∙ sym (take_more_than ys end (length ys) len refl (there ∙ ap (min len) same)))
      ∙ begins_front len ys

  -- a group from place p on
  module _ (p : ℕ) (before : p < end) where
    abbrev n : ℕ
    n = min (end - p) 6

    read_x : read_group xs p (end - p) ≡ number (take n (drop p xs))
    read_x = read_six xs p (end - p) ∙ read_inside xs p n (omega arith) (omega arith)

    read_y : read_group ys p (end - p) ≡ number (take n (drop p ys))
    read_y = read_six ys p (end - p) ∙ read_inside ys p n (omega arith) (omega arith)

    pub more_same : take (min p end) xs ≡ take (min p end) ys → read_group xs p (end - p) ≡ read_group ys p (end - p) → take (min (p + 6) end) xs ≡ take (min (p + 6) end) ys
    more_same front e =
        let here : min p end ≡ p = omega arith in
        let next : min (p + 6) end ≡ p + n = omega arith in
        ap (λ i. take i xs) next
        ∙ take-add p n xs
        ∙ ap₂ (λ a b. a ++ b) (subst (λ i. take i xs ≡ take i ys) here front)
        (same_number (take n (drop p xs)) (take n (drop p ys))
        (length-take n (drop p xs) ∙ ap (min n) (length-drop p xs ∙ ap (λ i. i - p) same ∙ sym (length-drop p ys)) ∙ sym (length-take n (drop p ys)))
        (sym read_x ∙ e ∙ read_y))
        ∙ sym (take-add p n ys)
        ∙ ap (λ i. take i ys) (sym next)

    group_same : take len xs ≡ take len ys → read_group xs p (end - p) ≡ read_group ys p (end - p)
    group_same e =
        let h : p + n ≤ len = omega arith in
        read_x
        ∙ ap number
        (sym (drop-take p n xs) ∙ ap (drop p) (sym (take-take (p + n) len xs h) ∙ ap (take (p + n)) e ∙ take-take (p + n) len ys h) ∙ drop-take p n ys)
        ∙ sym read_y

    pub begins_other : (read_group xs p (end - p) ≡ read_group ys p (end - p) → ⊥) → begins (take len xs) ys ≡ false
    begins_other differ = elim (decided (begins (take len xs) ys)) [
      | holds h ↦ absurd (differ (group_same
          (sym (front_from_begins (take len xs) ys h)
          ∙ ap (λ i. take i ys) (length-take len xs ∙ ap (min len) same)
          ∙ sym (take_more_than ys (min len (length ys)) (length ys) len refl refl))))
      | fails h ↦ h
    ]
