use Rattle.std.proofs.Common.{Ok, take}
use Rattle.requests.specs.Ends.{lines_of}
use Rattle.texts.specs.Puts.{Puts}
use Rattle.requests.proofs.search.put_entries.Given as goal

abbrev pub invariant-loop-entry : goal.invariant-loop-entry
invariant-loop-entry g l = Puts (g.S.Sink.state l.initial.sink) (g.S.Sink.state l.sink) (lines_of l.names (take l.entry-index l.entries)) (Ok tt)
