use Rattle.isolation.proofs.Reached.{end_reached}
use Rattle.isolation.proofs.endings.ends_are_reached.Goals as goal

pub returns : goal.returns
returns c = end_reached
