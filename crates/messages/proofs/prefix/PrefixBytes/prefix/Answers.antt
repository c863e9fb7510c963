use Rattle.std.proofs.Common.{◌≤◌, ap, sym, ◌∙◌, arith, le-leb}
use Rattle.model.specs.Bytes.{unpack}
use Rattle.model.specs.Outcomes.{granted}
use Rattle.model.specs.Routes.{prefix_of, sound}
use Rattle.laws.proofs.Digits.{length_unpack}
use Rattle.messages.proofs.Rows.{prefix_in_bytes, sound_in_bytes}
use Rattle.messages.proofs.prefix.PrefixBytes.prefix.Goals as goal

pub invariant_of-result : goal.invariant_of-result
invariant_of-result g c =
    let row = unpack c.args.self.now.bytes.now in
    let long = length_unpack c.args.self.now.bytes.now in
    let whole = c.args.self.now.whole in
    record {
      sound =
          sound_in_bytes g.A.Address.WIDTH c.from-length.result row (g.A.Address.bits c.address-address.result) c.address-address.ensures
          (omega (arith, c.from-length.ensures))
          (omega (arith, c.if-length-WIDTH.false, c.WIDTH.ensures))
          (ap (sound row) c.from-length.ensures ∙ sym c.is_sound.ensures ∙ c.if-not-is_sound.false);
    }

pub returns-clause-prefix : goal.returns-clause-prefix
returns-clause-prefix g c =
    let row = unpack c.args.self.now.bytes.now in
    let long = length_unpack c.args.self.now.bytes.now in
    let whole = c.args.self.now.whole in
    let short : c.args.self.now.length ≤ g.A.Address.WIDTH = omega (arith, c.from-length.ensures, c.if-length-WIDTH.false, c.WIDTH.ensures) in
    rw (le-leb _ _ short, sym c.is_sound.ensures ∙ c.if-not-is_sound.false)
    (ap granted
    (prefix_in_bytes g.A.Address.WIDTH c.from-length.result row (g.A.Address.bits c.address-address.result) c.address-address.ensures
    (omega (arith, c.from-length.ensures)) (omega (arith, c.from-length.ensures))
    ∙ ap (prefix_of row) c.from-length.ensures))
