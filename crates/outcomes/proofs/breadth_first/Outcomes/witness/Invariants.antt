use Rattle.outcomes.proofs.Traced.{IsTraced}
use Rattle.outcomes.proofs.breadth_first.Outcomes.witness.Given as goal

abbrev pub invariant-loop-at : goal.invariant-loop-at
invariant-loop-at l = IsTraced l.self l.entries.items l.at l.place

abbrev pub decreases-loop-at : goal.decreases-loop-at
decreases-loop-at l = l.at
