use Rattle.std.proofs.Common.{inl, inr, refl}
use Rattle.simulate.proofs.entry.answer.Goals as goal

pub returns-in-Ok-clause-answered : goal.returns-in-Ok-clause-answered
returns-in-Ok-clause-answered g c = inl c.in-Ok.ensures.obeyed

pub returns-in-Err-clause-answered : goal.returns-in-Err-clause-answered
returns-in-Err-clause-answered g c = inr (
  c.in-Err.fault,
  record { store = c.obey.new.store; input = c.obey.new.input; output = g.O.Sink.state c.obey.new.out; error = g.E.Sink.state c.obey.new.error },
  c.in-Err.ensures.obeyed,
  c.say.ensures.said,
  refl,
)
