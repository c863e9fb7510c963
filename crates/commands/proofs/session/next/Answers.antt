use Rattle.std.proofs.Common.{rules, codes, ◌++◌}
use Rattle.replies.specs.Told.{found_told, prefix_spelled}
use Rattle.replies.specs.Words.{RouteAnswerWords}
use Rattle.replies.specs.declared.answers.Found.{Found}
use Rattle.commands.proofs.Told.{tells_so}
use Rattle.commands.proofs.session.next.Goals as goal

pub returns-clause-told : goal.returns-clause-told
returns-clause-told g c =
    tells_so (λ (x : Found). found_told x.0) (RouteAnswerWords g.A.Address.bits g.A.AddressText.spelled)
    (codes "next " ++ prefix_spelled g.A.AddressText.spelled c.args.prefix) c.as_str.result.now (search rules)
    c.found.result _ c.reply.result c.reply.ensures.told (c.found.ensures.told _ c.next.ensures.answer)
