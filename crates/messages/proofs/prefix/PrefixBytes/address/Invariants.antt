use Rattle.std.proofs.Common.{◌≡◌, ◌*◌, take}
use Rattle.bits.specs.Rows.{padded}
use Rattle.model.specs.Bytes.{unpack}
use Rattle.messages.proofs.prefix.PrefixBytes.address.Given as goal

-- the address begins with the bits of the bytes so far
abbrev pub invariant-loop-byte : goal.invariant-loop-byte
invariant-loop-byte g l =
    record {
      place : l.place ≡ 8 * l.byte-index;
      bits : g.A.Address.bits l.address ≡ padded g.A.Address.WIDTH (unpack (take l.byte-index l.fn.self.bytes.now));
    }
