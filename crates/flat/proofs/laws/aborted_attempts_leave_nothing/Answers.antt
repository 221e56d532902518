use Rattle.flat.proofs.Struck.{nothing_left, nothing_done}
use Rattle.flat.proofs.RolledBack.{given_back}
use Rattle.flat.proofs.laws.aborted_attempts_leave_nothing.Goals as goal

pub returns-clause-others : goal.returns-clause-others
returns-clause-others c = nothing_left

pub returns-clause-back : goal.returns-clause-back
returns-clause-back c = given_back

pub returns-clause-memory : goal.returns-clause-memory
returns-clause-memory c = nothing_done
