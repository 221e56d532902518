use Rattle.std.proofs.Common.{arith}
use Rattle.cache.proofs.Masks.{next_some, next_none, next_beyond}
use Rattle.cache.proofs.occupied.Occupied.next.Goals as goal

pub returns-then-rest-ne0 : goal.returns-then-rest-ne0
returns-then-rest-ne0 c = rw (← c.self.view_is) (next_some c.self.inside.mask c.args.from c.self.invariant c.if-rest-ne0.true)

pub returns-then-from-lt-KNOWN : goal.returns-then-from-lt-KNOWN
returns-then-from-lt-KNOWN c = rw (← c.self.view_is) (next_none c.self.inside.mask c.args.from c.if-from-lt-KNOWN.true c.if-rest-ne0.false)

pub returns : goal.returns
returns c = rw (← c.self.view_is) (next_beyond c.self.inside.mask c.args.from (omega (arith, c.if-from-lt-KNOWN.false)))
