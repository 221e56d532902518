use Rattle.std.proofs.Common.{sym}
use Rattle.cache.proofs.Changes.{has_way}
use Rattle.cache.proofs.cache.Cache.mark_read.Goals as goal

pub returns-in_default-clause-line : goal.returns-in_default-clause-line
returns-in_default-clause-line g c = absurd (has_way g.row.SETS c.args.self.now c.args.block (sym c.in_default.ensures) c.requires)
