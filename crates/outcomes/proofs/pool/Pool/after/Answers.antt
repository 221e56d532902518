use Rattle.std.proofs.Common.{◌∙◌}
use Rattle.std.proofs.lemmas.Result.{IfOk-weaker}
use Rattle.outcomes.proofs.pool.Pool.after.Goals as goal

pub returns-clause-flat : goal.returns-clause-flat
returns-clause-flat c = IfOk-weaker c.with_reservations.result _ _ (λ x flat s image count. flat s image count ∙ c.in_ok-next.ensures.flat s image count) c.with_reservations.ensures.flat
