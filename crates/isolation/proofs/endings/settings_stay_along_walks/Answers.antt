use Rattle.isolation.proofs.Walked.{move_setting, walk_setting}
use Rattle.isolation.proofs.endings.settings_stay_along_walks.Goals as goal

pub returns-clause-each : goal.returns-clause-each
returns-clause-each c = move_setting

pub returns-clause-all : goal.returns-clause-all
returns-clause-all c = walk_setting
