use Rattle.std.proofs.Common.{sym}
use Rattle.bits.specs.Rows.{row}
use Rattle.bits.proofs.Padded.{padded_all}
use Rattle.bits.proofs.Rows.{length_row}
use Rattle.bits.proofs.Words.{first_word_row}
use Rattle.address.proofs.rows.Row.first_bits.Goals as goal

pub returns-then-len : goal.returns-then-len
returns-then-len g c =
    let v = c.args.self.now.number in
    sym (padded_all g.row.N c.args.len (row g.row.N v) (length_row g.row.N v) c.if-len.true)

pub returns : goal.returns
returns g c =
    let v = c.args.self.now in
    first_word_row 128 g.row.N c.args.len v.number v.within_word c.if-len.false v.small
