use Rattle.isolation.proofs.Belongs.RetiredWords.{row_of}
use Rattle.isolation.proofs.laws.retirements_are_rows.Goals as goal

pub returns : goal.returns
returns c = row_of
