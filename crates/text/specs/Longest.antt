-- The longest number at the front of a text is the only one that can be read there.
use Rattle.std.specs.Prelude.{◌≡◌, ℕ, suc, ◌+◌, ◌-◌, ◌*◌, ◌/◌, ◌%◌, ◌^◌, ◌<◌, ◌≤◌, Bool, true, cond, ◌&&◌, List, [], ◌∷◌, ◌++◌, length, take, drop, decimal, nat_le, nat_lt, slice_index, refl}
use Rattle.std.proofs.Common.{sym, ap, ap₂, ◌∙◌, subst, append_assoc, append-nil, ⊎_elim, arith, mod-lt, mod-eq_of_lt, take_all}
use Rattle.std.proofs.Math.Nat.{add-sub_cancel_left}
use Rattle.std.proofs.lemmas.Bool.{and_from, and_parts, lt-ltb, le-leb, ltb-true, leb-true, cases_Bool, cases_lt, cond-true, cond-false}
use Rattle.std.proofs.lemmas.List.{take_more, drop_more, drop_all, take-append-drop}
use Rattle.std.proofs.lemmas.Fmt.{decimal_digit, decimal_step, decimal_by_steps}
use Rattle.text.specs.Numbers.{Digit, Extends, Longest}
use Rattle.text.specs.Stuck.{Stuck}

-- one digit more
pub decimal_more : (n c : ℕ) → 0 < n → Digit c → n < 1000 → decimal (n * 10 + (c - 48)) ≡ decimal n ++ (c ∷ [])
decimal_more n c some d small =
    decimal_step (n * 10 + (c - 48)) (omega arith) (omega arith)
    ∙ ap₂ (λ x y. decimal x ++ (y ∷ [])) (omega arith) (omega arith)

-- the first digit
pub decimal_first : (c : ℕ) → Digit c → c ∷ [] ≡ decimal (c - 48)
decimal_first c d = ap (λ x. x ∷ []) (omega arith) ∙ sym (decimal_digit (c - 48) (omega arith))

-- ---- reading greedily

abbrev more : ℕ → ℕ → ℕ → Bool
more limit n c = nat_lt 0 n && (nat_le 48 c && (nat_le c 57 && nat_le (n * 10 + (c - 48)) limit))

grow : ℕ → ℕ → List ℕ → ℕ × List ℕ
grow limit n [] = (n, [])
grow limit n (c ∷ cs) = cond (more limit n c) (grow limit (n * 10 + (c - 48)) cs) (n, c ∷ cs)

greedy : ℕ → List ℕ → ℕ × List ℕ
greedy limit [] = (0, [])
greedy limit (c ∷ cs) = grow limit (c - 48) cs

more_from : (limit n c : ℕ) → Extends limit n c → more limit n c ≡ true
more_from limit n c e =
    and_from _ _ (lt-ltb 0 n e.0) (and_from _ _ (le-leb 48 c e.1.0) (and_from _ _ (le-leb c 57 e.1.1) (le-leb _ limit e.2)))

more_to : (limit n c : ℕ) → more limit n c ≡ true → Extends limit n c
more_to limit n c e =
    let a = and_parts _ _ e in
    let b = and_parts _ _ a.1 in
    let d = and_parts _ _ b.1 in
    (ltb-true 0 n a.0, (leb-true 48 c b.0, leb-true c 57 d.0), leb-true _ limit d.1)

-- nothing in front of the rest makes the number longer
abbrev pub Stops : ℕ → ℕ → List ℕ → Type 0
Stops limit n [] = Unit {0}
Stops limit n (c ∷ cs) = Extends limit n c → ⊥

grow_stops : (limit n : ℕ) (s : List ℕ) → Stops limit n s → grow limit n s ≡ (n, s)
unfolding grow
grow_stops limit n [] h = refl
grow_stops limit n (c ∷ cs) h =
    ⊎_elim (λ t. absurd (h (more_to limit n c t))) (λ f. cond-false (more limit n c) _ _ f) (cases_Bool (more limit n c))

grow_more : (limit n c : ℕ) (s : List ℕ) → Extends limit n c → grow limit n (c ∷ s) ≡ grow limit (n * 10 + (c - 48)) s
unfolding grow
grow_more limit n c s e = cond-true (more limit n c) _ _ (more_from limit n c e)

abbrev Passed : ℕ → ℕ → List ℕ → Type 0
Passed limit n ds = n ≤ limit → (s : List ℕ) → greedy limit (ds ++ s) ≡ grow limit n s

greedy_decimal : (limit n : ℕ) → n < 2 ^ 64 → Passed limit n (decimal n)
unfolding greedy
greedy_decimal limit =
    decimal_by_steps (Passed limit)
    (λ n l small s. ap (λ x. grow limit x s) (add-sub_cancel_left 48 n))
    (λ n ds l ih small s.
    ap (greedy limit) (append_assoc ds ((48 + n % 10) ∷ []) s)
    ∙ ih (omega arith) ((48 + n % 10) ∷ s)
    ∙ grow_more limit (n / 10) (48 + n % 10) s (omega arith, (omega arith, omega arith), omega arith)
    ∙ ap (λ x. grow limit x s) (omega arith))

pub rem_le : (limit v : ℕ) → v % suc limit ≤ limit
rem_le limit v = omega (arith, mod-lt v {m = suc limit} (omega arith))

-- two numbers that begin one text, neither of which can be made longer there, are one
pub unique : (limit n m : ℕ) (r s : List ℕ) → limit < 1000 → n ≤ limit → m ≤ limit → Stops limit n r → Stops limit m s
    → decimal n ++ r ≡ decimal m ++ s → (n ≡ m) × (r ≡ s)
unique limit n m r s top a b h k e =
    let same =
    sym (grow_stops limit n r h) ∙ sym (greedy_decimal limit n (omega arith) a r)
    ∙ ap (greedy limit) e
    ∙ greedy_decimal limit m (omega arith) b s ∙ grow_stops limit m s k in
    (ap (λ p. p.0) same, ap (λ p. p.1) same)

-- ---- the longest number in front of a text

module _ {limit n end : ℕ} {text : List ℕ} (l : Longest limit text n end) where
  pub front : text ≡ decimal n ++ drop end text
  front = sym (take-append-drop end text) ∙ ap (λ t. t ++ drop end text) l.is

  pub rest_stops : Stops limit n (drop end text)
  rest_stops =
      ⊎_elim
      (λ h. subst (Stops limit n) (sym (drop_more text end 0 h)) (l.stops h))
      (λ h. subst (Stops limit n) (sym (drop_all end text h)) tt)
      (cases_lt end (length text))

  -- the number and the byte behind it, and more
  pub next_and : (s : List ℕ) → end < length text → take (end + 1) text ++ s ≡ decimal n ++ (slice_index text end ∷ s)
  next_and s h =
      ap (λ t. t ++ s) (take_more text end 0 h ∙ ap (λ t. t ++ (slice_index text end ∷ [])) l.is)
      ∙ append_assoc (decimal n) (slice_index text end ∷ []) s

  -- the number is all
  pub alone : length text ≤ end → text ≡ decimal n
  alone h = sym (take_all end text h) ∙ l.is

  -- something stands behind the number
  pub behind : limit < 1000 → end < length text → Stuck (λ v. decimal (v % suc limit)) text end
  behind top h =
      let never : (v : ℕ) (s : List ℕ) → decimal (v % suc limit) ≡ decimal n ++ (slice_index text end ∷ s) → ⊥ =
      λ v s e.
      let p = unique limit (v % suc limit) n [] (slice_index text end ∷ s) top (rem_le limit v) l.small tt (l.stops h) (append-nil (decimal (v % suc limit)) ∙ e) in
      omega (arith, ap length p.1) in
      record {
        within = l.within;
        begun = (n, [], ap decimal (mod-eq_of_lt (omega (arith, l.small))) ∙ sym l.is ∙ sym (append-nil (take end text)));
        stops = λ _ b. never b.0 b.1 (b.2 ∙ next_and b.1 h);
        none = λ v e. never v (drop (end + 1) text) (sym e ∙ front ∙ ap (λ t. decimal n ++ t) (drop_more text end 0 h));
      }

-- ---- no number in front of a text

-- the text begins with a digit
abbrev pub FirstDigit : List ℕ → Type 0
FirstDigit t = (c : ℕ) × (cs : List ℕ) × (t ≡ c ∷ cs) × Digit c

pub first_digit : (n : ℕ) → n < 2 ^ 64 → FirstDigit (decimal n)
first_digit =
    decimal_by_steps (λ n ds. FirstDigit ds)
    (λ n h. (48 + n, [], refl, (omega arith, omega arith)))
    (λ n ds h p. (p.0, p.1 ++ ((48 + n % 10) ∷ []), ap (λ t. t ++ ((48 + n % 10) ∷ [])) p.2, p.3))

module _ (texts : ℕ → List ℕ) (digit : (v : ℕ) → FirstDigit (texts v)) where
  starts : (v c : ℕ) (cs : List ℕ) → texts v ≡ c ∷ cs → Digit c
  starts v c cs e = let p = digit v in subst Digit (ap (λ t. slice_index t 0) (sym p.2 ∙ e)) p.3

  pub no_number : (text : List ℕ) → (0 < length text → Digit (slice_index text 0) → ⊥) → Stuck texts text 0
  no_number [] h =
      record {
        within = omega arith;
        begun = (0, texts 0, refl);
        stops = λ l b. absurd (omega arith);
        none = λ v e. omega (arith, ap length (sym (digit v).2 ∙ sym e));
      }
  no_number (c ∷ cs) h =
      record {
        within = omega arith;
        begun = (0, texts 0, refl);
        stops = λ l b. h (omega arith) (starts b.0 c b.1 b.2);
        none = λ v e. h (omega arith) (starts v c cs (sym e));
      }
