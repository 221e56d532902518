use Rattle.std.proofs.Common.{Ok, take}
use Rattle.flat.specs.State.{Flat}
use Rattle.render.specs.Reports.{words_text}
use Rattle.texts.specs.Puts.{Puts}
use Rattle.render.proofs.reporting.put_words.Given as goal

abbrev pub invariant-loop-addr : goal.invariant-loop-addr
invariant-loop-addr g l = (f : Flat) → g.M.Engine.belongs f l.machine
    → Puts (g.S.Sink.state l.initial.sink) (g.S.Sink.state l.sink) (words_text f (take l.addr-index l.words)) (Ok tt)
