use Rattle.simulate.proofs.OneHistory.{replayed_once}
use Rattle.simulate.proofs.PlayedOn.{played_on}
use Rattle.simulate.proofs.laws.a_history_gives_its_report.Goals as goal

pub returns-clause-steps : goal.returns-clause-steps
returns-clause-steps c = replayed_once

pub returns-clause-ended : goal.returns-clause-ended
returns-clause-ended c = played_on
