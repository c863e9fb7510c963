use Rattle.std.proofs.Common.{◌≡◌, ◌+◌, ◌∙◌, sym, refl}
use Rattle.commands.proofs.Found.{only_blanks, end_of, word_found}
use Rattle.commands.proofs.line.WordsIterator.next.Goals as goal
use Rattle.commands.proofs.line.WordsIterator.next.Goals.{in-Some, in-None}

pub returns-in_err-start-clause-steps : goal.returns-in_err-start-clause-steps
returns-in_err-start-clause-steps c =
    rw c.from_residual.ensures (refl, refl, only_blanks _ _ (sym c.first_other.ensures ∙ c.in_err-start.was))

pub returns-clause-steps : goal.returns-clause-steps
returns-clause-steps c =
    let line = c.args.self.now.line.now in
    let start = c.args.self.now.place + c.in_ok-start.field-0 in
    let found = word_found line c.args.self.now.place c.in_ok-start.field-0 c.first_blank.result (sym c.first_other.ensures ∙ c.in_ok-start.was) (sym c.first_blank.ensures) in
    let same : end_of line start c.first_blank.result ≡ c.match-first_blank.end = elim c.match-first_blank.branch [ in-Some w ↦ rw (w.in-Some.is, w.end-is) refl | in-None w ↦ rw (w.in-None.is, w.end-is) refl ] in
    (refl, rw same at found)
