-- The bits of the fields are exactly those that are no spare bits.
use Rattle.std.proofs.Common.{◌≡◌, ℕ, ◌+◌, ◌-◌, ◌*◌, ◌/◌, ◌%◌, ◌<◌, ◌≤◌, true, ◌⊎◌, inl, inr, subst, ⊎_elim, arith}
use Rattle.std.proofs.lemmas.Bool.{cases_eq, cases_lt, ltb-true, leb-true, and_parts, ne_eqb, lt-ltb, le-ltb, eq-eqb, le-leb}
use Rattle.fields.specs.Layout.{Place, child_place, count_place, hop_place}
use Rattle.fields.specs.Beside.{is_field}

-- a bit is one of the field at a place
pub record Covers (p : Place) (word bit : ℕ) : Type 0 where
  pub word_is : p.word ≡ word
  pub from : p.shift ≤ bit
  pub to : bit < p.shift + p.width

pub child_covers : (i bit : ℕ) → i < 64 → bit < 18 * (i % 3) + 18 → is_field (1 + i / 3) bit ≡ true
child_covers i bit hi h = grind (arith, ne_eqb, lt-ltb, le-ltb, eq-eqb)

pub count_covers : (bit : ℕ) → bit < 25 → is_field 22 bit ≡ true
count_covers bit h = lt-ltb bit 25 h

pub hop_covers : (i bit : ℕ) → 1 ≤ i → i < 64 → 12 * (i % 5) ≤ bit → bit < 12 * (i % 5) + 12 → is_field (23 + i / 5) bit ≡ true
hop_covers i bit one hi from to = grind (arith, ne_eqb, lt-ltb, le-ltb, eq-eqb, le-leb)

-- which bits these are, by word
children_end : (word bit : ℕ) → (word ≡ 0 → ⊥) → word < 22 → is_field word bit ≡ true → bit < 54
children_end word bit nz l h = grind (arith, ne_eqb, lt-ltb, ltb-true)

hops_end : (word bit : ℕ) → 23 ≤ word → is_field word bit ≡ true → bit < 60
hops_end word bit g h = grind (arith, ne_eqb, eq-eqb, lt-ltb, le-ltb, ltb-true, leb-true, and_parts)

hops_start : (word bit : ℕ) → 23 ≤ word → is_field word bit ≡ true → 12 ≤ bit + 12 * (word - 23)
hops_start word bit g h =
    ⊎_elim (λ e. let b : 12 ≤ bit = leb-true 12 bit (and_parts _ _ (subst (λ w. is_field w bit ≡ true) e h)).0 in omega arith) (λ ne. omega arith) (cases_eq word 23)

last_end : (word bit : ℕ) → word < 36 → bit < 60 → is_field word bit ≡ true → bit < 48 + 12 * (35 - word)
last_end word bit l end h =
    ⊎_elim (λ e. let b : bit < 48 = ltb-true bit 48 (subst (λ w. is_field w bit ≡ true) e h) in omega arith) (λ ne. omega arith) (cases_eq word 35)

-- and each bit that is no spare bit is one of the bitmap, of a child, of the count or of a hop
pub in_a_field : (word bit : ℕ) → word < 36 → is_field word bit ≡ true
    → (word ≡ 0)
    ⊎ (((i : ℕ) × ((i < 64) × Covers (child_place i) word bit))
    ⊎ (Covers count_place word bit
    ⊎ ((i : ℕ) × ((1 ≤ i) × (i < 64) × Covers (hop_place i) word bit))))
in_a_field word bit hw h =
    ⊎_elim
    (λ z. inl z)
    (λ nz. inr
    (⊎_elim
    (λ l.
    let end : bit < 54 = children_end word bit nz l h in
    let i : ℕ = 3 * (word - 1) + bit / 18 in
    inl (i, (omega arith, record { word_is = omega arith; from = omega arith; to = omega arith })))
    (λ g. ⊎_elim
    (λ e.
    let end : bit < 25 = ltb-true bit 25 (subst (λ w. is_field w bit ≡ true) e h) in
    ⊎_elim
    (λ l. inl (63, (omega arith, record { word_is = omega arith; from = omega arith; to = omega arith })))
    (λ m. inr (inl (record { word_is = omega arith; from = omega arith; to = omega arith })))
    (cases_lt bit 18))
    (λ ne.
    let g' : 23 ≤ word = omega arith in
    let end : bit < 60 = hops_end word bit g' h in
    let start = hops_start word bit g' h in
    let last = last_end word bit hw end h in
    let i : ℕ = 5 * (word - 23) + bit / 12 in
    inr (inr (i, (omega arith, omega arith, record { word_is = omega arith; from = omega arith; to = omega arith }))))
    (cases_eq word 22))
    (cases_lt word 22)))
    (cases_eq word 0)
