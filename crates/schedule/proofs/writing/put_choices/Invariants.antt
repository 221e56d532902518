use Rattle.std.proofs.Common.{Ok, take}
use Rattle.texts.specs.Puts.{Puts}
use Rattle.schedule.specs.Written.{text_of}
use Rattle.schedule.proofs.writing.put_choices.Given as goal

abbrev pub invariant-loop-choice : goal.invariant-loop-choice
invariant-loop-choice g l =
    Puts (g.S.Sink.state l.initial.sink) (g.S.Sink.state l.sink) (text_of (take l.choice-index l.choices)) (Ok tt)
