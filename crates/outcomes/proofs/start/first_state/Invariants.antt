use Rattle.outcomes.proofs.Begun.{AreBegun}
use Rattle.outcomes.proofs.start.first_state.Given as goal

abbrev pub invariant-loop-i : goal.invariant-loop-i
invariant-loop-i l = AreBegun l.size l.entry l.count l.pool l.state l.i
