use Rattle.isolation.proofs.Beside.{walk_there}
use Rattle.isolation.proofs.endings.conflicts_come_beside_others.Goals as goal

pub returns : goal.returns
returns c = walk_there
