use Rattle.std.proofs.Common.{rules, codes, ◌++◌}
use Rattle.replies.specs.Told.{inserted_told, prefix_spelled}
use Rattle.replies.specs.Words.{InsertedWords}
use Rattle.replies.specs.declared.answers.Inserted.{Inserted}
use Rattle.commands.proofs.Told.{tells_so}
use Rattle.commands.proofs.session.insert.Goals as goal

pub returns-clause-told : goal.returns-clause-told
returns-clause-told g c =
    tells_so (λ (x : Inserted). inserted_told x.hop x.answer.old x.answer.taken) (InsertedWords c.args.hop)
    (codes "insert " ++ prefix_spelled g.A.AddressText.spelled c.args.prefix) c.as_str.result.now (search rules)
    c.inserted.result _ c.reply.result c.reply.ensures.told (c.inserted.ensures.told _ c.insert-answer.ensures.answer)
