use Rattle.debugger.specs.Plays.{Plays}
use Rattle.debugger.proofs.playing.play.Given as goal

-- the lines so far
abbrev pub invariant-loop-count : goal.invariant-loop-count
invariant-loop-count g l = Plays l.names (g.D.Debugged.answers l.names) g.I.LineInput.gives l.prompt l._count
    (record { session = l.fn.session; input = l.fn.input; told = g.S.Sink.state l.fn.out; asked = g.P.Sink.state l.fn.prompts })
    (record { session = l.session; input = l.input; told = g.S.Sink.state l.out; asked = g.P.Sink.state l.prompts })
