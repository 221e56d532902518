use Rattle.std.proofs.Common.{◌≡◌, ◌<◌, ℕ, List, length, [], sym, ap, subst, ◌∙◌, refl}
use Rattle.std.specs.Prelude.{slice_set}
use Rattle.flat.specs.State.{Setting}
use Rattle.flat.specs.Attempts.{with_hart}
use Rattle.outcomes.specs.declared.pool.State.{State}
use Rattle.outcomes.specs.Harts.{hart_of}
use Rattle.outcomes.specs.Pools.{flat_in, IsWithin}
use Rattle.outcomes.proofs.Pooled.{put_within, put_there}
use Rattle.outcomes.proofs.pool.Pool.with_hart.Goals as goal

pub returns-clause-within : goal.returns-clause-within
returns-clause-within c =
    let kept = c.in_ok-next.ensures.kept in
    let s : Setting = record { segments = []; size = 0; count = c.args.count } in
    subst (λ i. IsWithin c.args.count c.keep_hart.new.self (record c.args.state { harts = slice_set c.args.state.harts i c.in_ok-next.field-0 })) (sym c.index.ensures.value)
    (put_within s [] c.args.self.now c.keep_hart.new.self c.args.state c.args.id c.in_ok-next.field-0 c.args.hart c.requires.within c.in_ok-next.ensures.grows c.requires.hart kept.0 kept.1 kept.2)

pub returns-clause-flat : goal.returns-clause-flat
returns-clause-flat c s image count =
    let kept = c.in_ok-next.ensures.kept in
    let w = subst (λ n. IsWithin n c.args.self.now c.args.state) (sym count) c.requires.within in
    let lt = subst (λ n. c.args.id < n) (sym count) c.requires.hart in
    ap (λ i. flat_in s image c.keep_hart.new.self (record c.args.state { harts = slice_set c.args.state.harts i c.in_ok-next.field-0 })) c.index.ensures.value
    ∙ put_there s image c.args.self.now c.keep_hart.new.self c.args.state c.args.id c.in_ok-next.field-0 c.args.hart w c.in_ok-next.ensures.grows lt kept.0 kept.1 kept.2
