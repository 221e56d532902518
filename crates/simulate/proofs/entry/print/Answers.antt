use Rattle.std.proofs.Common.{append-nil}
use Rattle.texts.proofs.Putting.{puts-both, puts-same}
use Rattle.requests.specs.Faults.{fault_text}
use Rattle.simulate.proofs.entry.print.Goals as goal

pub returns-clause-puts : goal.returns-clause-puts
returns-clause-puts g c = puts-same (append-nil (fault_text c.args.fault.now)) (puts-both c.in_ok-put.ensures c.flush.ensures.puts)
