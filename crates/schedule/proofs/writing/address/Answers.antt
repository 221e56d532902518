use Rattle.std.proofs.Common.{arith, ◌∙◌}
use Rattle.schedule.proofs.LineWords.{wraps}
use Rattle.schedule.proofs.writing.address.Goals as goal

pub returns : goal.returns
returns c = c.hexadecimal.ensures.digits ∙ wraps _ c.args.block (omega (arith, c.number.ensures))
