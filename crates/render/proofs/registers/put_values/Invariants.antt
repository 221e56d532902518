use Rattle.std.proofs.Common.{Ok}
use Rattle.texts.specs.Puts.{Puts}
use Rattle.render.specs.Registers.{registers_text}
use Rattle.render.proofs.registers.put_values.Given as goal

abbrev pub invariant-loop-number : goal.invariant-loop-number
invariant-loop-number g l =
    Puts (g.S.Sink.state l.initial.sink) (g.S.Sink.state l.sink) (registers_text l.regs l.number) (Ok tt)
