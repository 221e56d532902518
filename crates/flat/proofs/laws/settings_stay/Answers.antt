use Rattle.flat.proofs.Runs.{run_setting}
use Rattle.flat.proofs.laws.settings_stay.Goals as goal

pub returns-clause-run : goal.returns-clause-run
returns-clause-run c = run_setting
