use Rattle.simulate.proofs.OneKept.{kept_once}
use Rattle.simulate.proofs.PlayedOn.{kept_on}
use Rattle.simulate.proofs.laws.a_kept_history_gives_its_report.Goals as goal

pub returns-clause-steps : goal.returns-clause-steps
returns-clause-steps c = kept_once

pub returns-clause-ended : goal.returns-clause-ended
returns-clause-ended c = kept_on
