use Rattle.requests.proofs.Refusing.{puts-put}
use Rattle.requests.proofs.fault.Fault.tell.Goals as goal

pub returns-clause-told : goal.returns-clause-told
returns-clause-told g c = puts-put _ _ _ c.put.result c.put.ensures
