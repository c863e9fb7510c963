-- In which node a prefix lies: the one path on its way whose stride it does not fill.
use Rattle.std.proofs.Common.{◌≡◌, ℕ, zero, suc, ◌+◌, ◌-◌, ◌<◌, ◌≤◌, true, eqb, ltb, List, [], ◌∷◌, length, get_or, take, drop, refl, sym, ap, ◌∙◌, not-suc-le-zero, le_of_suc-le-suc, length-take-le, length-take, length-drop, pow_pos, lt-ltb, ltb-true, arith}
use Rattle.std.proofs.lemmas.Bool.{and_parts, eq-eqb, eqb-true, ne_eqb}
use Rattle.bits.specs.Rows.{Bits}
use Rattle.bits.specs.Order.{begins, same}
use Rattle.bits.proofs.Orders.{holds, fails, decided, same_eq, same_self}
use Rattle.bits.proofs.Prefixes.{begins_front, front_from_begins}
use Rattle.laws.proofs.Levels.{nowhere_else, somewhere}
use Rattle.laws.proofs.Plans.{planned, ranged}
use Rattle.laws.proofs.Positions.{position_small}
use Rattle.model.specs.Places.{Lies, level, path_to, position_of}
use Rattle.model.specs.Placements.{lies_in, stride_from}
use Rattle.model.specs.Plans.{in_range, offset, plan_ok}

-- the stride at an offset is that of a level
pub record StrideAt (plan : List ℕ) (o at s : ℕ) : Type 0 where
  pub k : ℕ
  pub inside : k < length plan
  pub is_offset : o + offset plan k ≡ at
  pub is_stride : get_or plan k 0 ≡ s

stride_where : (plan : List ℕ) (o at : ℕ) → 1 ≤ stride_from o plan at → StrideAt plan o at (stride_from o plan at)
stride_where [] o at h = absurd (not-suc-le-zero h)
stride_where (s ∷ ss) o at h = elim (decided (eqb at o)) [
  | holds e ↦ simp e (record { k = 0; inside = omega arith; is_offset = (let i = eqb-true at o e in omega arith); is_stride = refl })
  | fails e ↦
      simp e
      (let rest = stride_where ss (o + s) at (simp e at h) in
      record { k = suc rest.k; inside = (let i = rest.inside in omega arith); is_offset = (let i = rest.is_offset in omega arith); is_stride = rest.is_stride })
]

pub stride_of : (plan : List ℕ) (o k : ℕ) → in_range plan ≡ true → k < length plan → stride_from o plan (o + offset plan k) ≡ get_or plan k 0
stride_of [] o k r h = absurd (not-suc-le-zero h)
stride_of (s ∷ ss) o zero r h = let e : o + 0 ≡ o = omega arith in simp (eq-eqb (o + 0) o e)
stride_of (s ∷ ss) o (suc k) r h =
    let range = ranged s ss r in
    let later = ne_eqb (o + (s + offset ss k)) o (λ e. let low = range.low in omega arith) in
    let at : o + (s + offset ss k) ≡ o + s + offset ss k = omega arith in
    simp later (ap (stride_from (o + s) ss) at ∙ stride_of ss (o + s) k range.rest (le_of_suc-le-suc h))

module _ (W : ℕ) (plan : List ℕ) (ok : plan_ok W plan ≡ true) (p : Bits) (short : length p ≤ W) where
  abbrev there : Lies plan (level plan (length p)) (length p)
  there = let t = (planned W plan ok).total in somewhere plan (length p) (omega arith)

  pub path_length : length (path_to plan p) ≡ offset plan (level plan (length p))
  path_length = length-take-le (offset plan (level plan (length p))) p there.1

  pub path_stride : stride_from 0 plan (length (path_to plan p)) ≡ get_or plan (level plan (length p)) 0
  path_stride =
      ap (stride_from 0 plan) (path_length ∙ (let e : offset plan (level plan (length p)) ≡ 0 + offset plan (level plan (length p)) = omega arith in e))
      ∙ stride_of plan 0 (level plan (length p)) (planned W plan ok).range there.0

  -- it lies in the node of its path
  pub lies_there : lies_in (path_to plan p) (stride_from 0 plan (length (path_to plan p))) p ≡ true
  lies_there =
      let l = path_length in
      let s = path_stride in
      let low = there.2 in
      simp (begins_front (offset plan (level plan (length p))) p, lt-ltb (length p) (length (path_to plan p) + stride_from 0 plan (length (path_to plan p))) (omega arith))

  -- and in no other
  pub lies_nowhere_else : (x : Bits) → lies_in x (stride_from 0 plan (length x)) p ≡ true → x ≡ path_to plan p
  lies_nowhere_else x h =
      let parts = and_parts (begins x p) (ltb (length p) (length x + stride_from 0 plan (length x))) h in
      let front : take (length x) p ≡ x = front_from_begins x p parts.0 in
      let size = ap length front in
      let cut = length-take (length x) p in
      let near = ltb-true (length p) (length x + stride_from 0 plan (length x)) parts.1 in
      let at = stride_where plan 0 (length x) (omega arith) in
      let offset_is = at.is_offset in
      let stride_is = at.is_stride in
      let level_is : at.k ≡ level plan (length p) = nowhere_else (length p) at.k plan (at.inside, omega arith, omega arith) in
      sym front ∙ ap (λ k. take k p) ((let e : length x ≡ offset plan at.k = omega arith in e) ∙ ap (offset plan) level_is)

  pub lies_one : (x : Bits) → lies_in x (stride_from 0 plan (length x)) p ≡ same x (path_to plan p)
  lies_one x = elim (decided (same x (path_to plan p))) [
    | holds e ↦ ap (λ (y : Bits). lies_in y (stride_from 0 plan (length y)) p) (same_eq x (path_to plan p) e) ∙ lies_there ∙ sym e
    | fails e ↦ elim (decided (lies_in x (stride_from 0 plan (length x)) p)) [
      | holds k ↦ (let wrong = sym e ∙ ap (λ (y : Bits). same y (path_to plan p)) (lies_nowhere_else x k) ∙ same_self (path_to plan p) in cc)
      | fails k ↦ k ∙ sym e
    ]
  ]

-- a stride of a plan is at most 6
stride_small : (plan : List ℕ) (k : ℕ) → in_range plan ≡ true → k < length plan → get_or plan k 0 ≤ 6
stride_small [] k r h = absurd (not-suc-le-zero h)
stride_small (s ∷ ss) zero r h = (ranged s ss r).high
stride_small (s ∷ ss) (suc k) r h = stride_small ss k (ranged s ss r).rest (le_of_suc-le-suc h)

-- a prefix lies at a position from 1 to 63
pub position_within : (W : ℕ) (plan : List ℕ) (p : Bits) → plan_ok W plan ≡ true → length p ≤ W → (1 ≤ position_of plan p) × (position_of plan p < 64)
position_within W plan p ok short =
    let at = there W plan ok p short in
    let rest = drop (offset plan (level plan (length p))) p in
    let size : length rest ≡ length p - offset plan (level plan (length p)) = length-drop (offset plan (level plan (length p))) p in
    let small = stride_small plan (level plan (length p)) (planned W plan ok).range at.0 in
    let low = pow_pos (length rest) in
    (omega arith, position_small rest (get_or plan (level plan (length p)) 0) (let a = at.1 in let b = at.2 in omega arith) small)
