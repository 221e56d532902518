use Rattle.texts.proofs.Putting.{puts-both}
use Rattle.schedule.proofs.writing.put_line.Goals as goal

pub returns : goal.returns
returns g c = puts-both c.in_ok-put_choice.ensures c.put_all.ensures
