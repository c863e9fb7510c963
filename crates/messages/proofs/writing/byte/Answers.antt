use Rattle.std.proofs.Common.{◌+◌, ◌*◌, ℕ, ap₂, ◌∙◌, arith}
use Rattle.bits.proofs.Padded.{group_small}
use Rattle.messages.proofs.Puts.{two_groups}
use Rattle.messages.proofs.writing.byte.Goals as goal

pub overflow_mul-result : goal.overflow_mul-result
overflow_mul-result g c =
    let small = group_small (g.A.Address.bits c.args.address.now) c.args.place 4 (omega arith) in
    omega (arith, c.group.ensures)

pub overflow_add-result : goal.overflow_add-result
overflow_add-result g c =
    let small = group_small (g.A.Address.bits c.args.address.now) c.args.place 4 (omega arith) in
    let low = group_small (g.A.Address.bits c.args.address.now) (c.args.place + 4) 4 (omega arith) in
    omega (arith, c.group.ensures, c.group-2.ensures)

pub returns : goal.returns
returns g c =
    ap₂ (λ (i j : ℕ). 16 * i + j) c.group.ensures c.group-2.ensures ∙ two_groups (g.A.Address.bits c.args.address.now) c.args.place
