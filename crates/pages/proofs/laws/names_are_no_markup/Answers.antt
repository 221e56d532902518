use Rattle.pages.proofs.Spelling.{all_spell}
use Rattle.pages.proofs.laws.names_are_no_markup.Goals as goal

pub returns : goal.returns
returns c = all_spell
