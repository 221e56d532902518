use Rattle.pages.specs.Harts.{kept_line}
use Rattle.pages.proofs.Lists.{PutUpTo}
use Rattle.pages.proofs.harts.put_lines.Given as goal

abbrev pub invariant-loop-number : goal.invariant-loop-number
invariant-loop-number g l =
    PutUpTo (kept_line g.row.SETS l.machine l.hart) l.machine.directory.kept l.number-iterator
    (g.S.Sink.state l.initial.sink) (g.S.Sink.state l.sink)
