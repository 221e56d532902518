use Rattle.std.proofs.Common.{arith}
use Rattle.cache.proofs.StoredBytes.{halves}
use Rattle.cache.proofs.bytes.with_half.Goals as goal

pub returns : goal.returns
returns c = grind (arith, halves c.args.word c.args.place c.args.value c.ranges.word.fits c.requires)
