use Rattle.std.proofs.Common.{length}
use Rattle.disassembler.proofs.numbers.+trimmed.Given as goal

abbrev pub decreases-trimmed : goal.decreases-trimmed
decreases-trimmed l = length l.digits.now
