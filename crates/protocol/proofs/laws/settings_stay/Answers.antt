use Rattle.protocol.proofs.Settings.{setting_stays}
use Rattle.protocol.proofs.laws.settings_stay.Goals as goal

pub returns : goal.returns
returns c = setting_stays
