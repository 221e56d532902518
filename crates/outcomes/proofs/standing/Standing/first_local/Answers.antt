use Rattle.std.proofs.Common.{inl, inr, subst}
use Rattle.isolation.specs.Moves.{IsLocal}
use Rattle.outcomes.specs.Standings.{flat_of}
use Rattle.outcomes.proofs.Together.{below_or_at}
use Rattle.outcomes.proofs.standing.Standing.first_local.Goals as goal

pub loop-i-preserved : goal.loop-i-preserved
loop-i-preserved c k lt here = elim (below_or_at k c.loop-i.i lt) [
  | inl lower ↦ c.loop-i.invariant k lower here
  | inr same ↦ c.is_local.ensures.no c.if-is_local.false (subst (IsLocal (flat_of c.args.self.now)) same here)
]
