use Rattle.std.proofs.Common.{ap, sym, ◌∙◌}
use Rattle.flat.specs.Causes.{act_cause}
use Rattle.flat.proofs.Next.{next_ok}
use Rattle.isolation.proofs.Within.Accesses.{access_within}
use Rattle.isolation.proofs.bounds.accesses_lie_in_memory.Goals as goal

pub returns-clause-access : goal.returns-clause-access
returns-clause-access c s h e m ok is = access_within s h m (ap (act_cause s h) (sym is) ∙ next_ok s h e ok)

pub returns-clause-conditional : goal.returns-clause-conditional
returns-clause-conditional c s h e rd m ok is = access_within s h m (ap (act_cause s h) (sym is) ∙ next_ok s h e ok)
