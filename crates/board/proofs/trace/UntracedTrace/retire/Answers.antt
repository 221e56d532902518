use Rattle.std.proofs.Common.{◌∙◌, refl, subst, arith}
use Rattle.hart.specs.declared.reply.Local.TheVariants.{NeedsMachine}
use Rattle.hart.specs.Rows.{setting_of}
use Rattle.hart.specs.Locals.{FollowsAlone}
use Rattle.hart.specs.Parts.{Parts}
use Rattle.machine.specs.Lent.{RetiresAlone}
use Rattle.board.proofs.Locals.{none_run, no_word, one_word}
use Rattle.board.proofs.trace.UntracedTrace.retire.Goals as goal

-- where no word was retired quickly, the hart is as it was

pub returns-then-retire_any-clause-ran : goal.returns-then-retire_any-clause-ran
returns-then-retire_any-clause-ran g c =
    let same = none_run g.row.SETS (λ es. Unit {0}) c.args.text.now.segments.now c.skim-made.result c.args.hart.now c.skim-made.new.hart (omega (arith, c.if-made-gt0.false)) c.skim-made.ensures.ran in
    let ss = c.args.text.now.segments.now in
    let one = c.retire_any.ensures.made c.if-retire_any.true in
    one_word g.row.SETS _ ss c.args.hart.now c.retire_any.new.hart one.0 (subst (λ (h : Parts). RetiresAlone g.row.SETS ss h one.0 c.retire_any.new.hart) same one.1) (λ before b. tt {0})

pub returns-else-retire_any-clause-ran : goal.returns-else-retire_any-clause-ran
returns-else-retire_any-clause-ran g c =
    let same = none_run g.row.SETS (λ es. Unit {0}) c.args.text.now.segments.now c.skim-made.result c.args.hart.now c.skim-made.new.hart (omega (arith, c.if-made-gt0.false)) c.skim-made.ensures.ran in
    no_word g.row.SETS _ c.args.text.now.segments.now c.args.hart.now c.retire_any.new.hart ((c.retire_any.ensures.none c.if-retire_any.false).0 ∙ same) (λ before b. tt {0})

pub returns-else-retire_any-clause-none : goal.returns-else-retire_any-clause-none
returns-else-retire_any-clause-none g c = λ zero.
    let same = none_run g.row.SETS (λ es. Unit {0}) c.args.text.now.segments.now c.skim-made.result c.args.hart.now c.skim-made.new.hart (omega (arith, c.if-made-gt0.false)) c.skim-made.ensures.ran in
    let ss = c.args.text.now.segments.now in
    (subst (λ (h : Parts). FollowsAlone g.row.SETS (setting_of ss h) h c.retire_any.new.hart NeedsMachine) same (c.retire_any.ensures.none c.if-retire_any.false), refl)
