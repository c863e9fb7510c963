use Rattle.std.proofs.Common.{sym, ⊎_elim, arith}
use Rattle.bits.specs.Rows.{row}
use Rattle.bits.proofs.Rows.{length_row}
use Rattle.bits.proofs.Groups.{write_behind, write_none}
use Rattle.bits.proofs.Words.{write_word_is, write_word_lt}
use Rattle.address.proofs.rows.Row.with_group.Goals as goal

pub returns-then-n-eq0 : goal.returns-then-n-eq0
returns-then-n-eq0 g c =
    let bs = row g.row.N c.args.self.now.number in
    let l = length_row g.row.N c.args.self.now.number in
    ⊎_elim
    (λ e. sym (write_none bs c.args.place c.args.len c.args.value (omega arith)))
    (λ e. sym (write_behind bs c.args.place c.args.len c.args.value (omega (arith, e.1))))
    c.then-n-eq0.either

pub invariant_of-result-clause-small : goal.invariant_of-result-clause-small
invariant_of-result-clause-small g c =
    let v = c.args.self.now in
    write_word_lt 128 g.row.N c.args.place c.min-kept.result c.min-n.result v.number c.args.value c.args.len
    v.within_word c.if-place.false (omega arith) c.min-n.ensures c.min-kept.ensures v.small

pub returns : goal.returns
returns g c =
    let v = c.args.self.now in
    write_word_is 128 g.row.N c.args.place c.min-kept.result c.min-n.result v.number c.args.value c.args.len
    v.within_word c.if-place.false (omega arith) c.min-n.ensures c.min-kept.ensures v.small
