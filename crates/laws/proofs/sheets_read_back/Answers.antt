use Rattle.laws.proofs.Messages.{sheet_laws}
use Rattle.laws.proofs.sheets_read_back.Goals as goal

pub returns : goal.returns
returns c = sheet_laws
