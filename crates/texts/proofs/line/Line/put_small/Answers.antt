use Rattle.std.proofs.Common.{append_assoc, arith}
use Rattle.texts.proofs.Decimals.{two_digits}
use Rattle.texts.proofs.line.Line.put_small.Goals as goal

pub returns-else-n-lt10-clause-text : goal.returns-else-n-lt10-clause-text
returns-else-n-lt10-clause-text g c =
    let number = two_digits c.args.n (omega arith) (omega arith) in
    simp (c.put_digit-else-n-lt10-2.ensures.text, c.put_digit-else-n-lt10.ensures.text, append_assoc, number)
