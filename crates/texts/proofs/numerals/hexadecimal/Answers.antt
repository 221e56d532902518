use Rattle.std.proofs.Common.{IsAscii, subst, sym}
use Rattle.texts.proofs.Digits.{hexadecimal-ascii}
use Rattle.texts.proofs.numerals.hexadecimal.Goals as goal

pub returns-clause-ascii : goal.returns-clause-ascii
returns-clause-ascii c = subst IsAscii (sym c.write_word.ensures) (hexadecimal-ascii c.args.n)
