use Rattle.isolation.proofs.Belongs.Belonging.{logs_after}
use Rattle.isolation.proofs.facts.logs_undo_to_memory.Goals as goal

pub returns : goal.returns
returns c = logs_after
