use Rattle.isolation.proofs.Reached.{have_reasons}
use Rattle.isolation.proofs.endings.coherent_runs_have_reasons.Goals as goal

pub returns : goal.returns
returns c = have_reasons
