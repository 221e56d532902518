use Rattle.std.proofs.Common.{arith}
use Rattle.words.proofs.Masks.{next, next_small, none_left, names_beyond}
use Rattle.words.proofs.hart.HartSet.next.Goals as goal
use Rattle.words.proofs.hart.HartSet.next.Goals.{then-from-lt-HARTS+else-rest-ne0, else-from-lt-HARTS}

pub invariant_of-result : goal.invariant_of-result
invariant_of-result c = next_small c.self.inside.mask c.args.from c.self.invariant c.if-rest-ne0.true

pub returns-then-rest-ne0-clause-some : goal.returns-then-rest-ne0-clause-some
returns-then-rest-ne0-clause-some c = rw (← c.self.view_is) (next c.self.inside.mask c.args.from c.self.invariant c.if-rest-ne0.true)

pub returns-clause-none : goal.returns-clause-none
returns-clause-none c = rw (← c.self.view_is) (elim c.if-from-lt-HARTS.branch [
  | then-from-lt-HARTS+else-rest-ne0 w ↦ none_left c.self.inside.mask c.args.from c.self.invariant w.if-rest-ne0.false
  | else-from-lt-HARTS w ↦ λ h from. names_beyond c.self.inside.mask c.self.invariant h (omega (arith, w.if-from-lt-HARTS.false))
])
