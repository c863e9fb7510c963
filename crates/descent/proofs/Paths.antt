-- A path with bits written behind it.
use Rattle.std.proofs.Common.{◌≡◌, ℕ, suc, ◌+◌, ◌-◌, ◌*◌, ◌%◌, ◌^◌, ◌<◌, ◌≤◌, min, ◌++◌, length, take, drop, sym, ap, ◌∙◌, ap₂, append_assoc, ⊎_elim, pow-suc, take_at, take-take, length-take, length-append, arith}
use Rattle.std.proofs.lemmas.Bool.{cases_lt}
use Rattle.std.proofs.Math.Nat.{pow-le-pow_right}
use Rattle.std.proofs.lemmas.Nat.{one_shl}
use Rattle.bits.specs.Rows.{Bits, number, row, write_group}
use Rattle.bits.proofs.Orders.{number_lt}
use Rattle.bits.proofs.Prefixes.{row_number}
use Rattle.model.specs.Places.{position}
use Rattle.model.specs.Routes.{route}

-- bits written behind the first ones
written : (a x : Bits) (place len v : ℕ) → len ≤ 6 → place + len ≤ length a → length x ≡ len → number x ≡ v
    → take (place + len) (write_group a place len v) ≡ take place a ++ x
unfolding write_group
written a x place len v few within size is =
    let six : min len 6 ≡ len = omega arith in
    let whole : row (min len 6) v ≡ x = ap₂ row (six ∙ sym size) (sym is) ∙ row_number x in
    let rest = drop (place + min len 6) a in
    let front = length-take place a in
    let all = length-append (take place a) x in
    ap (λ (r : Bits). take (place + len) (take (length a) (take place a ++ (r ++ rest)))) whole
    ∙ take-take (place + len) (length a) (take place a ++ (x ++ rest)) within
    ∙ ap (take (place + len)) (sym (append_assoc (take place a) x rest))
    ∙ take_at (take place a ++ x) rest (place + len) (omega arith)

-- a child's bits behind a path
pub lengthened : (a x : Bits) (place : ℕ) {w : Bits} {len given v : ℕ} → given ≡ len → w ≡ write_group a place given v → len ≤ 6 → place + len ≤ length a
    → length x ≡ len → number x ≡ v → take (place + given) w ≡ take place a ++ x
lengthened a x place {w} {len} {given} {v} same is few within size spells =
    ap₂ (λ k (y : Bits). take (place + k) y) same (is ∙ ap (λ k. write_group a place k v) same) ∙ written a x place len v few within size spells

-- ---- the bits of a position

-- they are as many as its logarithm
bits_at : (x : Bits) (p log : ℕ) → p ≡ position x → 2 ^ log ≤ p → p < 2 * 2 ^ log → length x ≡ log
bits_at x p log is low high =
    let small = number_lt x in
    let next = pow-suc 2 (length x) in
    let after = pow-suc 2 log in
    let up : log ≤ length x =
    ⊎_elim (λ lt. absurd (let h = pow-le-pow_right {n = 2} (omega arith) {i = suc (length x)} {j = log} lt in omega arith)) (λ ge. ge) (cases_lt (length x) log) in
    let down : length x ≤ log =
    ⊎_elim (λ lt. absurd (let h = pow-le-pow_right {n = 2} (omega arith) {i = suc log} {j = length x} lt in omega arith)) (λ ge. ge) (cases_lt log (length x)) in
    omega arith

-- and behind a path they lead to a prefix
pub placed : (a w x q : Bits) (place p log hop : ℕ) → p ≡ position x → 2 ^ log ≤ p → p < 2 * 2 ^ log → length x ≤ 6 → place + length x ≤ length a
    → w ≡ write_group a place log (p - 1 * 2 ^ log % 2 ^ 8) → q ≡ take (place + log) w → route q hop ≡ route (take place a ++ x) hop
placed a w x q place p log hop is low high few within written_is taken =
    let size = bits_at x p log is low high in
    let byte : 1 * 2 ^ log % 2 ^ 8 ≡ 2 ^ log = one_shl log 8 (omega arith) in
    let power : 2 ^ length x ≡ 2 ^ log = ap (λ k. 2 ^ k) size in
    let spells : number x ≡ p - 1 * 2 ^ log % 2 ^ 8 = rw byte (omega arith) in
    ap (λ (y : Bits). route y hop)
    (taken ∙ ap (take (place + log)) written_is ∙ written a x place log (p - 1 * 2 ^ log % 2 ^ 8) (omega arith) (omega arith) size spells)
