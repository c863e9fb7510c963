-- A bitmap without a mark at position 0 has none there when another position is marked or unmarked.
use Rattle.std.proofs.Common.{◌≡◌, ℕ, ◌-◌, ◌*◌, ◌/◌, ◌%◌, ◌^◌, ◌≤◌, false, ap, ◌∙◌, pow-suc, arith}
use Rattle.std.proofs.Math.Nat.{div-one}
use Rattle.std.proofs.lemmas.Bool.{eqb-false}
use Rattle.bits.proofs.Orders.{holds, fails, decided}
use Rattle.model.specs.Nodes.{marked}
use Rattle.masks.proofs.Marked.{mark_within}
use Rattle.masks.specs.Marks.{with_mark, without_mark}

even : (b : ℕ) → marked b 0 ≡ false → b % 2 ≡ 0
unfolding marked
even b h = let one = eqb-false (b / 2 ^ 0 % 2) 1 h in let same = ap (λ x. x % 2) (div-one b) in omega arith

twice : (j : ℕ) → 1 ≤ j → 2 ^ j ≡ 2 ^ (j - 1) * 2
twice j some = ap (λ k. 2 ^ k) (omega arith) ∙ pow-suc 2 (j - 1)

pub marked_even : (b j : ℕ) → marked b 0 ≡ false → 1 ≤ j → with_mark b j % 2 ≡ 0
marked_even b j h some =
    let e = even b h in
    let t = twice j some in
    elim (decided (marked b j)) [ holds on ↦ simp on e | fails off ↦ simp off (omega arith) ]

pub unmarked_even : (b j : ℕ) → marked b 0 ≡ false → 1 ≤ j → without_mark b j % 2 ≡ 0
unmarked_even b j h some =
    let e = even b h in
    let t = twice j some in
    elim (decided (marked b j)) [ holds on ↦ simp on (let w = mark_within b j on in omega arith) | fails off ↦ simp off e ]
