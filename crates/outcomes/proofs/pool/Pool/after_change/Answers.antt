use Rattle.std.proofs.Common.{◌≡◌, ℕ, ap, ◌∙◌}
use Rattle.std.proofs.lemmas.Result.{IfOk-weaker}
use Rattle.flat.specs.State.{Flat}
use Rattle.outcomes.specs.Harts.{mem_after}
use Rattle.outcomes.specs.Pools.{with_mem}
use Rattle.outcomes.proofs.pool.Pool.after_change.Goals as goal

pub returns-clause-flat : goal.returns-clause-flat
returns-clause-flat c =
    IfOk-weaker c.with_memory.result _ _
    (λ x flat s image count. flat s image count ∙ ap (λ (f : Flat). with_mem f (mem_after image c.args.change.memory f.mem)) (c.in_ok-between.ensures.flat s image count))
    c.with_memory.ensures.flat
