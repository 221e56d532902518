use Rattle.std.proofs.Common.{Ok, replicate}
use Rattle.texts.specs.Puts.{Puts}
use Rattle.schedule.specs.Written.{text_of}
use Rattle.schedule.proofs.writing.put_batch.Given as goal

abbrev pub invariant-loop-made : goal.invariant-loop-made
invariant-loop-made g l =
    Puts (g.S.Sink.state l.initial.sink) (g.S.Sink.state l.sink) (text_of (replicate l._made l.batch.choice)) (Ok tt)
