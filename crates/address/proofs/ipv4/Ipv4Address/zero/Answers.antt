use Rattle.bits.proofs.Rows.{row_zero}
use Rattle.address.proofs.ipv4.Ipv4Address.zero.Goals as goal

pub returns : goal.returns
returns c = row_zero 32
