use Rattle.std.proofs.Common.{◌/◌, ◌^◌, List, ℕ, take, ap, sym, ◌∙◌, arith, slice_index_or, length-take-le, add-one}
use Rattle.std.proofs.Math.Seq.{take-suc}
use Rattle.bits.specs.Rows.{Bits, padded, write_group}
use Rattle.model.specs.Bytes.{unpack}
use Rattle.messages.proofs.Rows.{byte_next}
use Rattle.messages.proofs.prefix.PrefixBytes.address.Goals as goal

pub loop-byte-preserved : goal.loop-byte-preserved
loop-byte-preserved g c =
    let W = g.A.Address.WIDTH in
    let bytes = c.args.self.now.bytes.now in
    let i = c.loop-byte.byte-index in
    let i_inside = c.loop-byte-test.true in
    let long = length-take-le i bytes (omega arith) in
    let at = c.loop-byte.invariant.place in
    record {
      place = omega (arith, c.loop-byte.invariant.place);
      bits =
          byte_next W (slice_index_or bytes i 0) c.loop-byte.place (take i bytes)
          (g.A.Address.bits c.with_group.result) (g.A.Address.bits c.with_group-address.result)
          (omega arith)
          (c.with_group.ensures ∙ ap (λ (r : Bits). write_group r c.loop-byte.place 4 (slice_index_or bytes i 0 / 2 ^ 4)) c.loop-byte.invariant.bits)
          c.with_group-address.ensures
          ∙ ap (λ (r : List ℕ). padded W (unpack r)) (sym (take-suc bytes i 0 i_inside))
          ∙ ap (λ (k : ℕ). padded W (unpack (take k bytes))) (sym (add-one i));
    }
