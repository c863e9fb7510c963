-- What the console counts, and how it tells it at the end.
use Rattle.std.specs.Prelude.{ℕ, ◌+◌, ◌-◌, ◌^◌, min, List, ◌++◌, codes, decimal}
use Rattle.replies.specs.declared.reply.Reply.{Reply}
use Rattle.replies.specs.declared.reply.Reply.TheVariants.{Silence, Remark, Answered, Refused, Misread, Switched}
use Rattle.replies.specs.declared.summary.Summary.{Summary}

-- one more, unless the counter is at its end
abbrev pub one_more : ℕ → ℕ
one_more n = min (n + 1) (2 ^ 64 - 1)

-- one line more, by what it came to
abbrev pub counted : Summary → Reply → Summary
counted s Silence = record { lines = one_more s.lines; answered = s.answered; refused = s.refused; misread = s.misread }
counted s (Remark r) = record { lines = one_more s.lines; answered = s.answered; refused = s.refused; misread = s.misread }
counted s (Answered t) = record { lines = one_more s.lines; answered = one_more s.answered; refused = s.refused; misread = s.misread }
counted s (Switched k) = record { lines = one_more s.lines; answered = one_more s.answered; refused = s.refused; misread = s.misread }
counted s (Refused t) = record { lines = one_more s.lines; answered = s.answered; refused = one_more s.refused; misread = s.misread }
counted s (Misread e p) = record { lines = one_more s.lines; answered = s.answered; refused = s.refused; misread = one_more s.misread }

abbrev pub summary_told : Summary → List ℕ
summary_told s =
    codes "lines read: " ++ (decimal s.lines
    ++ (codes "; commands answered: " ++ (decimal s.answered
    ++ (codes ", refused: " ++ (decimal s.refused
    ++ (codes ", not understood: " ++ decimal s.misread))))))
