use Rattle.std.proofs.Common.{◌*◌, ◌^◌, ◌-◌, sym, ap, ◌∙◌, arith, zero-mul}
use Rattle.std.proofs.Math.Nat.{div-eq_of_lt}
use Rattle.std.proofs.Math.Pow.{pow_mono}
use Rattle.trials.proofs.lines.Network.cut.Goals as goal

pub returns-else-free-lt128-clause-value : goal.returns-else-free-lt128-clause-value
returns-else-free-lt128-clause-value c =
    let free = c.args.width - c.args.length in
    let wide = pow_mono {i = 128} {j = free} (omega arith) in
    sym (ap (λ high. high * 2 ^ free) (div-eq_of_lt (omega (arith, wide))) ∙ zero-mul (2 ^ free))
