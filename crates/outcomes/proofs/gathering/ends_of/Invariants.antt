use Rattle.outcomes.specs.Found.{ends_in, AreEndsAmong}
use Rattle.outcomes.proofs.gathering.ends_of.Given as goal

abbrev pub invariant-loop-place : goal.invariant-loop-place
invariant-loop-place l = AreEndsAmong l.outcomes l.words l.place (ends_in l.found)
