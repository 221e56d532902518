use Rattle.simulate.proofs.OneHistory.{threaded_once}
use Rattle.simulate.proofs.laws.threaded_reports_are_one.Goals as goal

pub returns : goal.returns
returns c = threaded_once
