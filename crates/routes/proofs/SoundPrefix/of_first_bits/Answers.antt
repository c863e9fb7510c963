use Rattle.std.proofs.Common.{arith}
use Rattle.bits.proofs.Padded.{clear_behind_first}
use Rattle.routes.proofs.SoundPrefix.of_first_bits.Goals as goal

pub invariant_of-result : goal.invariant_of-result
invariant_of-result g c =
    let bs = g.A.Address.bits c.args.address in
    let W = g.A.Address.WIDTH in
    let l = g.met.A.Address.long c.args.address in
    let m = g.met.A.Address.long c.first_bits.result in
    record { sound = (omega (arith, c.min-length.ensures, c.WIDTH.ensures), rw c.first_bits.ensures (clear_behind_first W c.min-length.result bs (omega arith) (omega arith))) }
