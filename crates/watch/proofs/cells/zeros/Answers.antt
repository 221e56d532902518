use Rattle.watch.proofs.Zeros.{always_zero}
use Rattle.watch.proofs.cells.zeros.Goals as goal

pub returns : goal.returns
returns c = λ p. always_zero 128 p
