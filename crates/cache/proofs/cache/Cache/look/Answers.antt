use Rattle.std.proofs.Common.{◌≡◌, ◌<◌, ◌%◌, [], length, get_or, ◌∙◌, ap, arith}
use Rattle.std.proofs.lemmas.List.{get_or_default}
use Rattle.cache.specs.Ways.{line_in}
use Rattle.cache.specs.Sets.{line_at}
use Rattle.cache.proofs.Victims.{looked_block, looked_owned}
use Rattle.cache.proofs.cache.Cache.look.Goals as goal

pub returns-clause-block : goal.returns-clause-block
unfolding line_at
returns-clause-block g c =
    let some : 0 < g.row.SETS = c.self.invariant.0.some_set in
    let within : c.index.result % g.row.SETS < length c.self.inside.sets = omega arith in
    let ways : c.index-sets-index.result ≡ get_or c.self.inside.sets (c.args.block % g.row.SETS) [] = rw c.index.ensures.value at (c.index-sets-index.is ∙ get_or_default c.self.inside.sets (c.index.result % g.row.SETS) c.index-sets-index.result [] within) in
    looked_block g.row.SETS g.row.WAYS c.self.inside.sets c.args.block c.line_of.result c.self.invariant.0 (c.line_of.ensures ∙ ap (line_in c.args.block) ways)

pub returns-clause-owned : goal.returns-clause-owned
unfolding line_at
returns-clause-owned g c =
    let some : 0 < g.row.SETS = c.self.invariant.0.some_set in
    let within : c.index.result % g.row.SETS < length c.self.inside.sets = omega arith in
    let ways : c.index-sets-index.result ≡ get_or c.self.inside.sets (c.args.block % g.row.SETS) [] = rw c.index.ensures.value at (c.index-sets-index.is ∙ get_or_default c.self.inside.sets (c.index.result % g.row.SETS) c.index-sets-index.result [] within) in
    looked_owned g.row.SETS g.row.WAYS c.self.inside.sets c.args.block c.line_of.result c.self.invariant.0 (c.line_of.ensures ∙ ap (line_in c.args.block) ways)
