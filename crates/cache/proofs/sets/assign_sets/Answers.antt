use Rattle.std.proofs.Common.{[], sym, ◌∙◌, arith}
use lib.Seq.{ext_get_or}
use Rattle.cache.proofs.sets.assign_sets.Goals as goal

pub returns : goal.returns
returns g c = ext_get_or [] c.loop-set.sets c.args.others.now (c.loop-set.invariant.0 ∙ sym c.requires.size) (λ s h. c.loop-set.invariant.1 s (omega arith))
