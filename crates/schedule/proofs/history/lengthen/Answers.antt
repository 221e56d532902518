use Rattle.std.proofs.Common.{◌≡◌, ◌-◌, suc, length, refl, arith, subst, ◌++◌, slice_set, replicate}
use Rattle.schedule.specs.declared.choices.Choice.{Choice}
use Rattle.schedule.specs.Histories.{choices_in}
use Rattle.schedule.specs.declared.history.Batch.{Batch}
use Rattle.schedule.proofs.Batches.{last_longer}
use Rattle.schedule.proofs.history.lengthen.Goals as goal

pub returns-clause-longer : goal.returns-clause-longer
returns-clause-longer c = λ _.
    let last = c.in-Some.last.now in
    let count : length c.args.batches.now ≡ suc (length c.args.batches.now - 1) = omega (arith, c.in-Some.ensures.item.3.0) in
    let next : Batch = record { choice = last.choice; times = c.in-Some-checked_add.sum } in
    let same : last.choice ≡ c.args.more.now.choice = grind (arith, c.ne.ensures, c.if-ne.false) in
    subst (λ (a : Choice). choices_in (slice_set c.args.batches.now (length c.args.batches.now - 1) next) ≡ choices_in c.args.batches.now ++ replicate c.args.more.now.times a) same
    (last_longer c.args.batches.now (length c.args.batches.now - 1) last next last c.args.more.now.times count c.in-Some.ensures.item.1 refl c.in-Some-checked_add.ensures.1)
