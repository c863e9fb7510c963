use Rattle.std.proofs.Common.{refl, codes}
use Rattle.replies.specs.Told.{counted_told}
use Rattle.replies.specs.Words.{CountedWords}
use Rattle.replies.specs.declared.answers.Counted.{Counted}
use Rattle.commands.proofs.Told.{tells_so}
use Rattle.commands.proofs.session.counts.Goals as goal

pub returns-clause-told : goal.returns-clause-told
returns-clause-told g c =
    tells_so (λ (x : Counted). counted_told x.0.routes x.0.required x.0.free) (CountedWords)
    (codes "counts") (codes "counts") (refl)
    c.counted.result _ c.reply.result c.reply.ensures.told (c.counted.ensures.told _ c.counts.ensures.answer)
