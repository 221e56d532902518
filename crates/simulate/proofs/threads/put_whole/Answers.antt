use Rattle.std.proofs.Common.{append-nil}
use Rattle.schedule.specs.Written.{text_of}
use Rattle.texts.proofs.Putting.{puts-both, puts-same}
use Rattle.simulate.proofs.threads.put_whole.Goals as goal

pub returns-clause-puts : goal.returns-clause-puts
returns-clause-puts g c = puts-same (append-nil (text_of c.args.history.now.choices)) (puts-both c.in_ok-put_history.ensures c.flush.ensures.puts)
