use Rattle.flat.proofs.Isolated.{isolated}
use Rattle.flat.proofs.laws.touched_blocks_stay.Goals as goal

pub returns : goal.returns
returns c = isolated
