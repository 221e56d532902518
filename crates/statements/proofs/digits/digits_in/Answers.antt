use Rattle.std.proofs.Common.{refl}
use Rattle.statements.proofs.digits.digits_in.Goals as goal

pub returns : goal.returns
returns c = rw (← c.is_empty.ensures, c.if-is_empty.false) (c.digits_after.ensures 0 refl)
