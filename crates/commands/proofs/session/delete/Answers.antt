use Rattle.std.proofs.Common.{rules, codes, ◌++◌}
use Rattle.replies.specs.Told.{deleted_told, prefix_spelled}
use Rattle.replies.specs.Words.{DeletedWords}
use Rattle.replies.specs.declared.answers.Deleted.{Deleted}
use Rattle.commands.proofs.Told.{tells_so}
use Rattle.commands.proofs.session.delete.Goals as goal

pub returns-clause-told : goal.returns-clause-told
returns-clause-told g c =
    tells_so (λ (x : Deleted). deleted_told x.0.hop x.0.returned) (DeletedWords)
    (codes "delete " ++ prefix_spelled g.A.AddressText.spelled c.args.prefix) c.as_str.result.now (search rules)
    c.deleted.result _ c.reply.result c.reply.ensures.told (c.deleted.ensures.told _ c.delete-answer.ensures.answer)
