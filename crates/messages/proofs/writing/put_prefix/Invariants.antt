use Rattle.std.proofs.Common.{◌≡◌, ◌∷◌}
use Rattle.model.specs.Bytes.{pack}
use Rattle.routes.specs.Meant.{prefix_bits}
use Rattle.messages.specs.Puts.{put_at}
use Rattle.messages.proofs.writing.put_prefix.Given as goal

-- the length and the bytes so far
abbrev pub invariant-loop-i : goal.invariant-loop-i
invariant-loop-i g l = l.output ≡ put_at l.fn.place (l.fn.prefix.prefix.length ∷ pack l.i (prefix_bits g.A.Address.bits l.fn.prefix.prefix)) l.fn.output
