use Rattle.outcomes.proofs.Listed.{AreListed}
use Rattle.outcomes.specs.Searches.{IsEnd}
use Rattle.outcomes.proofs.breadth_first.Outcomes.ends.Given as goal

abbrev pub invariant-loop-place : goal.invariant-loop-place
invariant-loop-place l = AreListed (IsEnd l.self) l.ends.items l.place
