use Rattle.debugger.specs.Looks.{kept_line}
use Rattle.debugger.proofs.Lists.{PutUpTo}
use Rattle.debugger.proofs.commands.blocks.put_entries.Given as goal

abbrev pub invariant-loop-number : goal.invariant-loop-number
invariant-loop-number g l =
    PutUpTo kept_line l.machine.directory.kept l.number-iterator
    (g.S.Sink.state l.initial.sink) (g.S.Sink.state l.sink)
