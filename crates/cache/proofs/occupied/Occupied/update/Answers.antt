use Rattle.std.proofs.Common.{◌*◌, ◌%◌, ◌^◌, arith, ◌∙◌}
use Rattle.std.proofs.lemmas.Nat.{or_lt}
use Rattle.cache.proofs.Masks.{inserted, removed, unsaid}
use Rattle.cache.proofs.occupied.Occupied.update.Goals as goal

pub invariant_of-self : goal.invariant_of-self
invariant_of-self c = or_lt 64 c.self.inside.mask (1 * 2 ^ c.args.set % 2 ^ 64) c.self.invariant (omega arith)

pub returns-then-has_line : goal.returns-then-has_line
returns-then-has_line c = λ occupied within is. rw c.if-has_line.true (inserted c.self.inside.mask occupied (c.self.view_is ∙ is) c.args.set within c.if-set-lt-KNOWN.true)

pub returns-else-has_line : goal.returns-else-has_line
returns-else-has_line c = λ occupied within is. rw c.if-has_line.false (removed c.self.inside.mask occupied (c.self.view_is ∙ is) c.args.set within c.self.invariant c.if-set-lt-KNOWN.true)

pub returns-else-set-lt-KNOWN : goal.returns-else-set-lt-KNOWN
returns-else-set-lt-KNOWN c = λ occupied within is. unsaid c.args.self.now occupied is c.args.set within (omega (arith, c.if-set-lt-KNOWN.false)) c.args.has_line
