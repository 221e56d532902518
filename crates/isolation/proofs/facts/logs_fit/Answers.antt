use Rattle.isolation.proofs.Belongs.Belonging.{logs_fit_after}
use Rattle.isolation.proofs.facts.logs_fit.Goals as goal

pub returns : goal.returns
returns c = logs_fit_after
