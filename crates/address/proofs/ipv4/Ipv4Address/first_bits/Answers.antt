use Rattle.std.proofs.Common.{take, ap, ◌∙◌}
use Rattle.bits.specs.Rows.{padded, row}
use Rattle.address.proofs.ipv4.Ipv4Address.first_bits.Goals as goal

pub returns : goal.returns
returns c = c.first_bits.ensures ∙ ap (λ n. padded 32 (take c.args.len (row 32 n))) c.row.ensures
