use Rattle.std.proofs.Common.{codes, string_bytes}
use Rattle.commands.proofs.Made.{made_so}
use Rattle.commands.proofs.Told.{tells_somehow}
use Rattle.commands.proofs.session.nodes.Goals as goal

pub returns-clause-told : goal.returns-clause-told
returns-clause-told g c = made_so c.reply.result c.reply.ensures.told (λ reply h. tells_somehow string_bytes (codes "nodes") c.draw.result reply h)
