use Rattle.laws.proofs.Matches.{match_laws}
use Rattle.laws.proofs.lookup_is_longest_match.Goals as goal

pub returns : goal.returns
returns c = match_laws
