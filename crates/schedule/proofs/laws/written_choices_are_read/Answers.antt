use Rattle.schedule.proofs.Texts.{is_text, are_spelled}
use Rattle.schedule.proofs.laws.written_choices_are_read.Goals as goal

pub returns-clause-text : goal.returns-clause-text
returns-clause-text c = is_text

pub returns-clause-spelled : goal.returns-clause-spelled
returns-clause-spelled c = are_spelled
