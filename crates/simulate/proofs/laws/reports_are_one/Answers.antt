use Rattle.simulate.proofs.OneReport.{given_once}
use Rattle.simulate.proofs.laws.reports_are_one.Goals as goal

pub returns : goal.returns
returns c = given_once
