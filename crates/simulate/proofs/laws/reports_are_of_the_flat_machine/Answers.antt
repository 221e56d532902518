use Rattle.simulate.proofs.Promised.{given_promised, kept_promised, promised_once, threads_promised}
use Rattle.simulate.proofs.laws.reports_are_of_the_flat_machine.Goals as goal

pub returns-clause-run : goal.returns-clause-run
returns-clause-run c = given_promised

pub returns-clause-kept : goal.returns-clause-kept
returns-clause-kept c = kept_promised

pub returns-clause-threads : goal.returns-clause-threads
returns-clause-threads c = threads_promised

pub returns-clause-one : goal.returns-clause-one
returns-clause-one c = promised_once
