-- Where a prefix lies, on the way to it: what is still to come of its child indexes.
use Rattle.std.proofs.Common.{◌≡◌, ℕ, zero, suc, ◌+◌, ◌-◌, ◌*◌, ◌%◌, ◌^◌, ◌<◌, ◌≤◌, true, false, ltb, List, [], ◌∷◌, ◌++◌, length, get_or, take, drop, refl, sym, ap, ◌∙◌, ap₂, append_assoc, length-append, length-drop, length-take-le, take-take, take_all, drop-drop, lt-ltb, le-ltb, pow_pos, arith}
use Rattle.std.proofs.Math.Nat.{pow-le-pow_right}
use Rattle.std.proofs.lemmas.Nat.{one_shl}
use Rattle.bits.proofs.Padded.{group_small}
use Rattle.std.proofs.lemmas.List.{at_drop_more, drop-take, drop_all}
use Rattle.bits.specs.Rows.{Bits, number, read_group}
use Rattle.bits.proofs.Groups.{read_inside}
use Rattle.laws.proofs.Plans.{ranged}
use Rattle.model.specs.Places.{indexes, level, position}
use Rattle.model.specs.Plans.{in_range, offset, sum}
use Rattle.descent.specs.Passing.{LiesBehind}

pub record Placing (plan : List ℕ) (p : Bits) (i o : ℕ) (done : List ℕ) : Type 0 where
  pub indexed : indexes plan p ≡ done ++ indexes (drop i plan) (drop o p)
  pub levels : level plan (length p) ≡ i + level (drop i plan) (length p - o)
  pub reaches : o ≤ length p
  pub range : in_range (drop i plan) ≡ true
  pub total : sum plan ≡ o + sum (drop i plan)
  pub each : length done ≡ i

pub placing : (plan : List ℕ) (p : Bits) → in_range plan ≡ true → Placing plan p 0 0 []
placing plan p range =
    record {
      indexed = refl;
      levels = (let l = ap (level plan) (let e : length p ≡ length p - 0 = omega arith in e) in omega arith);
      reaches = omega arith;
      range = range;
      total = omega arith;
      each = refl;
    }

-- the offset of a stride and what is still to come are the whole
sum_split : (plan : List ℕ) (i : ℕ) → offset plan i + sum (drop i plan) ≡ sum plan
sum_split plan zero = omega arith
sum_split [] (suc i) = refl
sum_split (s ∷ ss) (suc i) = let e = sum_split ss i in omega arith

-- a group of an address within its first bits
pub group_of : (bits : Bits) (len o s : ℕ) → s ≤ 6 → o + s ≤ len → len ≤ length bits → read_group bits o s ≡ number (take s (drop o (take len bits)))
group_of bits len o s six h l =
    let part : take s (drop o (take len bits)) ≡ take s (drop o bits) =
    ap (λ k. take s (drop o (take k bits))) (omega arith)
    ∙ ap (take s) (drop-take o (len - o) bits)
    ∙ take-take s (len - o) (drop o bits) (omega arith) in
    read_inside bits o s six (omega arith) ∙ sym (ap number part)

module _ {plan : List ℕ} {p : Bits} {i o : ℕ} {done : List ℕ} (placing : Placing plan p i o done) (inside : i < length plan)
    (s : ℕ) (is_stride : s ≡ get_or plan i 0) where
  abbrev rest : List ℕ
  rest = drop (i + 1) plan

  split : drop i plan ≡ s ∷ rest
  split = at_drop_more (λ (xs : List ℕ). xs) plan i 0 inside ∙ ap (λ (x : ℕ). x ∷ rest) (sym is_stride)

  pub stride_low : 1 ≤ s
  stride_low = (ranged s rest (sym (ap in_range split) ∙ placing.range)).low

  pub stride_high : s ≤ 6
  stride_high = (ranged s rest (sym (ap in_range split) ∙ placing.range)).high

  within : o + s ≤ sum plan
  within = let t = placing.total in let e = ap sum split in omega arith

  -- one stride more
  module _ (longer : s ≤ length p - o) (index : ℕ) (is_index : index ≡ number (take s (drop o p))) where
    short : ltb (length (drop o p)) s ≡ false
    short = let l = length-drop o p in le-ltb (length (drop o p)) s (omega arith)

    indexes_step : indexes (drop i plan) (drop o p) ≡ index ∷ indexes rest (drop (o + s) p)
    indexes_step =
        ap (λ (ss : List ℕ). indexes ss (drop o p)) split
        ∙ simp short
        (ap₂ (λ (n : ℕ) (bs : Bits). n ∷ indexes rest bs) (sym is_index) (drop-drop s o p))

    level_step : level (drop i plan) (length p - o) ≡ suc (level rest (length p - (o + s)))
    level_step =
        ap (λ (ss : List ℕ). level ss (length p - o)) split
        ∙ simp (le-ltb (length p - o) s longer)
        (ap (λ k. suc (level rest k)) (let e : length p - o - s ≡ length p - (o + s) = omega arith in e))

    pub placing_on : Placing plan p (i + 1) (o + s) (done ++ (index ∷ []))
    placing_on =
        record {
          indexed = placing.indexed ∙ ap (λ (is : List ℕ). done ++ is) indexes_step ∙ sym (append_assoc done (index ∷ []) (indexes rest (drop (o + s) p)));
          levels = (let l = level_step in let m = placing.levels in omega arith);
          reaches = (let r = placing.reaches in omega arith);
          range = (ranged s rest (sym (ap in_range split) ∙ placing.range)).rest;
          total = (let t = placing.total in let e = ap sum split in omega arith);
          each = length-append done (index ∷ []) ∙ (let e = placing.each in omega arith);
        }

  -- the stride at which the prefix lies
  module _ (ends : length p - o < s) where
    placed_level : level plan (length p) ≡ i
    placed_level =
        let none : level (drop i plan) (length p - o) ≡ 0 = ap (λ (ss : List ℕ). level ss (length p - o)) split ∙ simp (lt-ltb (length p - o) s ends) in
        let m = placing.levels in
        omega arith

    pub placed_there : LiesBehind plan p o
    placed_there =
        let whole = sum_split plan i in
        let t = placing.total in
        let at : offset plan (level plan (length p)) ≡ o = ap (offset plan) placed_level ∙ (let e : offset plan i ≡ o = omega arith in e) in
        record {
          reaches = placing.reaches;
          few = (let h = stride_high in let r = placing.reaches in omega arith);
          position = ap (λ k. position (drop k p)) at;
        }

-- the strides do not end before the prefix does
pub never_past : {plan : List ℕ} {p : Bits} {i o : ℕ} {done : List ℕ} → Placing plan p i o done → length plan ≤ i → length p < sum plan → ⊥
never_past {plan = plan} {i = i} placing past short =
    let none = ap sum (drop_all i plan past) in
    let t = placing.total in
    let r = placing.reaches in
    omega arith

-- the position of a prefix, from the group of its last bits
pub position_by_group : (bits : Bits) (len o : ℕ) → len ≤ length bits → o ≤ len → len ≤ o + 5
    → 2 ^ (len - o) + read_group bits o (len - o) ≡ position (drop o (take len bits))
position_by_group bits len o h reaches few =
    let l = length-take-le len bits h in
    let d = length-drop o (take len bits) in
    let size : length (drop o (take len bits)) ≡ len - o = omega arith in
    let all : take (len - o) (drop o (take len bits)) ≡ drop o (take len bits) = take_all (len - o) (drop o (take len bits)) (omega arith) in
    ap₂ (λ k y. 2 ^ k + y) (sym size) (group_of bits len o (len - o) (omega arith) (omega arith) h ∙ ap number all)

-- in a byte, and a position of a node
pub position_fits : (bits : Bits) (len o : ℕ) → o ≤ len → len ≤ o + 5
    → (1 * 2 ^ (len - o) % 2 ^ 8 ≡ 2 ^ (len - o)) × (0 < 2 ^ (len - o) + read_group bits o (len - o)) × (2 ^ (len - o) + read_group bits o (len - o) < 64)
position_fits bits len o reaches few =
    let p = pow_pos (len - o) in
    let g = group_small bits o (len - o) (omega arith) in
    let power = pow-le-pow_right {n = 2} (omega arith) {i = len - o} {j = 5} (omega arith) in
    (one_shl (len - o) 8 (omega arith), omega arith, omega arith)
