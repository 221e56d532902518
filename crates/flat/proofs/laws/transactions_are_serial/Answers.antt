use Rattle.flat.proofs.Serial.{as_if_alone}
use Rattle.flat.proofs.laws.transactions_are_serial.Goals as goal

pub returns : goal.returns
returns c = as_if_alone
