use Rattle.words.proofs.Masks.{below_count, below_all}
use Rattle.words.proofs.hart.HartSet.below.Goals as goal

pub returns-then-count-lt-HARTS : goal.returns-then-count-lt-HARTS
returns-then-count-lt-HARTS c = rw (← c.self.view_is) (below_count c.self.inside.mask c.args.count c.if-count-lt-HARTS.true)

pub returns-else-count-lt-HARTS : goal.returns-else-count-lt-HARTS
returns-else-count-lt-HARTS c = rw (← c.self.view_is) (below_all c.self.inside.mask c.args.count c.self.invariant c.if-count-lt-HARTS.false)
