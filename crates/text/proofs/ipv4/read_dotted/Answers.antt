use Rattle.std.proofs.lemmas.Result.{MatchResult-weaker}
use Rattle.text.specs.Dotted.{with_dots}
use Rattle.text.proofs.ipv4.read_dotted.Goals as goal

pub returns : goal.returns
unfolding with_dots
returns c = MatchResult-weaker c.read_bytes.result c.read_bytes.ensures (λ v p. p.0) (λ e p. p)
