use Rattle.std.proofs.Common.{append-nil}
use Rattle.texts.proofs.Putting.{puts-both, puts-same}
use Rattle.requests.specs.Ends.{lines_of}
use Rattle.requests.proofs.search.put_lines.Goals as goal

pub returns-clause-lines : goal.returns-clause-lines
returns-clause-lines g c = puts-same (append-nil (lines_of c.args.names.now c.args.entries.now)) (puts-both c.in_ok-put_entries.ensures c.flush.ensures.puts)
