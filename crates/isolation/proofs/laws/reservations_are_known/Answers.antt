use Rattle.isolation.proofs.Reserved.{all_hold}
use Rattle.isolation.proofs.laws.reservations_are_known.Goals as goal

pub returns : goal.returns
returns c = λ g s entry steps es w i b bytes run o reserved. all_hold g s entry bytes steps es w run i o b reserved
