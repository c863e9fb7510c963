use Rattle.std.proofs.Common.{rules, codes, ◌++◌}
use Rattle.replies.specs.Told.{found_told, matched_told}
use Rattle.replies.specs.Words.{MatchedWords}
use Rattle.replies.specs.declared.answers.Matched.{Matched}
use Rattle.commands.proofs.Told.{tells_so}
use Rattle.commands.proofs.session.lookup.Goals as goal

pub returns-clause-told : goal.returns-clause-told
returns-clause-told g c =
    tells_so (λ (x : Matched). matched_told (found_told x.found.0) x.path) (MatchedWords g.A.Address.bits g.A.AddressText.spelled)
    (codes "lookup " ++ g.A.AddressText.spelled c.args.address) c.as_str.result.now (search rules)
    c.matched.result _ c.reply.result c.reply.ensures.told (c.matched.ensures.told _ c.lookup.ensures.answer)
