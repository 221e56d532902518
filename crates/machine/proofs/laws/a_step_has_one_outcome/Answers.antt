use Rattle.machine.proofs.Twins.{twins_first, own_twin, one_entry, twins_on}
use Rattle.machine.proofs.laws.a_step_has_one_outcome.Goals as goal

pub returns-clause-first : goal.returns-clause-first
returns-clause-first c = twins_first

pub returns-clause-itself : goal.returns-clause-itself
returns-clause-itself c = own_twin

pub returns-clause-entry : goal.returns-clause-entry
returns-clause-entry c = λ g v w u x step d e twins one other. one_entry g v w twins step d e u x one other

pub returns-clause-machine : goal.returns-clause-machine
returns-clause-machine c = λ g v w u x step d e twins one other. twins_on g v w twins step d e u x one other
