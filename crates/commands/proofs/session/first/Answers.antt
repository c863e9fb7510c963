use Rattle.std.proofs.Common.{refl, codes}
use Rattle.replies.specs.Told.{found_told}
use Rattle.replies.specs.Words.{RouteAnswerWords}
use Rattle.replies.specs.declared.answers.Found.{Found}
use Rattle.commands.proofs.Told.{tells_so}
use Rattle.commands.proofs.session.first.Goals as goal

pub returns-clause-told : goal.returns-clause-told
returns-clause-told g c =
    tells_so (λ (x : Found). found_told x.0) (RouteAnswerWords g.A.Address.bits g.A.AddressText.spelled)
    (codes "first") (codes "first") (refl)
    c.found.result _ c.reply.result c.reply.ensures.told (c.found.ensures.told _ c.first.ensures.answer)
