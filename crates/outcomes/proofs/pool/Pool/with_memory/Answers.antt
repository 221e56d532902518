use Rattle.std.proofs.Common.{◌≡◌, ℕ, List, Some, [], sym, ap, subst, ◌∙◌}
use Rattle.flat.specs.State.{Setting}
use Rattle.outcomes.specs.Harts.{mem_after}
use Rattle.outcomes.specs.Pools.{flat_in, with_mem, IsWithin}
use Rattle.outcomes.proofs.Pooled.{laid_within, laid_there}
use Rattle.outcomes.proofs.pool.Pool.with_memory.Goals as goal

pub returns-in_ok-keep_memory-in-Some-clause-within : goal.returns-in_ok-keep_memory-in-Some-clause-within
returns-in_ok-keep_memory-in-Some-clause-within c =
    let kept = c.in_ok-keep_memory-in-Some.ensures.kept in
    let s : Setting = record { segments = []; size = 0; count = c.args.count } in
    laid_within s [] c.args.self.now c.keep_memory.new.self c.args.state c.in_ok-keep_memory-in-Some.field-0 c.in-Some.memory c.requires c.in_ok-keep_memory-in-Some.ensures.grows kept.0 kept.1 kept.2

pub returns-in_ok-keep_memory-in-Some-clause-flat : goal.returns-in_ok-keep_memory-in-Some-clause-flat
returns-in_ok-keep_memory-in-Some-clause-flat c s image count =
    let kept = c.in_ok-keep_memory-in-Some.ensures.kept in
    let w = subst (λ n. IsWithin n c.args.self.now c.args.state) (sym count) c.requires in
    let f = flat_in s image c.args.self.now c.args.state in
    laid_there s image c.args.self.now c.keep_memory.new.self c.args.state c.in_ok-keep_memory-in-Some.field-0 c.in-Some.memory w c.in_ok-keep_memory-in-Some.ensures.grows kept.0 kept.1 kept.2
    ∙ ap (λ o. with_mem f (mem_after image o f.mem)) (sym c.in-Some.is)
