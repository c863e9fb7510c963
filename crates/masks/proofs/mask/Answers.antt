use Rattle.masks.proofs.Table.{marks_the_ways}
use Rattle.masks.proofs.mask.Goals as goal

pub returns-clause-table : goal.returns-clause-table
returns-clause-table c = marks_the_ways
