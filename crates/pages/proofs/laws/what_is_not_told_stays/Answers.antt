use Rattle.pages.proofs.Staying.{changes_what_is_told}
use Rattle.pages.proofs.laws.what_is_not_told_stays.Goals as goal

pub returns : goal.returns
returns c = changes_what_is_told
