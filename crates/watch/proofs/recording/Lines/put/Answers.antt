use Rattle.std.proofs.Common.{ℕ, List, ◌∙◌, subst, append-nil}
use Rattle.words.specs.Sinks.{TookAll, TookPart}
use Rattle.watch.proofs.recording.Lines.put.Goals as goal

pub returns-in-Ok-clause-noted : goal.returns-in-Ok-clause-noted
returns-in-Ok-clause-noted g c =
    subst (λ (text : List ℕ). TookAll (g.S.Sink.state c.args.sink.now) (g.S.Sink.state c.put_all.new.sink) text) (append-nil c.as_bytes-text.result.now ∙ c.as_bytes-text.ensures)
    (record { whole = c.in-Ok.ensures.whole; clean = c.in-Ok.ensures.clean })

pub returns-in-Err-clause-missed : goal.returns-in-Err-clause-missed
returns-in-Err-clause-missed g c =
    subst (λ (text : List ℕ). TookPart (g.S.Sink.state c.args.sink.now) (g.S.Sink.state c.put_all.new.sink) text) (append-nil c.as_bytes-text.result.now ∙ c.as_bytes-text.ensures)
    (record { part = c.in-Err.ensures.part; fault = c.in-Err.ensures.fault })
