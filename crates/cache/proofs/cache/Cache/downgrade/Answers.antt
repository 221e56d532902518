use Rattle.std.proofs.Common.{sym, refl, Option, Some, None, IsSome}
use Rattle.std.specs.Prelude.{IsSomeAnd, IsFalse}
use Rattle.cache.specs.declared.line.Line.{Line}
use Rattle.cache.specs.Sets.{line_at}
use Rattle.cache.proofs.Changes.{has_way}
use Rattle.cache.proofs.cache.Cache.downgrade.Goals as goal

there : (o : Option Line) → IsSomeAnd o (λ line. IsFalse line.marks.written) → IsSome o
there None is = absurd is
there (Some line) is = refl

pub returns-in_default-clause-line : goal.returns-in_default-clause-line
returns-in_default-clause-line g c =
    absurd (has_way g.row.SETS c.args.self.now c.args.block (sym c.in_default.ensures) (there (line_at g.row.SETS c.args.self.now c.args.block) c.requires))
