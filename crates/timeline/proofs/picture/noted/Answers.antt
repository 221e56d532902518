use Rattle.std.proofs.Common.{subst}
use Rattle.machine.specs.States.{geometry}
use Rattle.schedule.specs.declared.halt.Halt.{Halt}
use Rattle.schedule.specs.Courses.{course, forgotten}
use Rattle.schedule.specs.Observed.{IsHalted}
use Rattle.timeline.specs.Notes.{NotesRows, IsFull}
use Rattle.timeline.proofs.Noting.{cut_first, on_err, told, never_full}
use Rattle.timeline.proofs.picture.noted.Goals as goal

pub returns-in_err-rows-clause-err : goal.returns-in_err-rows-clause-err
returns-in_err-rows-clause-err g c =
    on_err c.from_residual.result
    (cut_first (geometry g.row.SETS g.row.WAYS) c.args.choices.now (g.C.Chooser.behind c.args.chooser.now) c.args.steps c.args.machine.now c.with_capacity.result c.requires c.in_err-rows.was c.with_capacity.ensures.succeeds)

pub unreachable-requires : goal.unreachable-requires
unreachable-requires g c =
    let G = geometry g.row.SETS g.row.WAYS in
    let on = course c.args.choices.now (forgotten (g.C.Chooser.behind c.run.new.chooser)) in
    let cut = subst (λ (h : Halt). IsHalted (NotesRows G.sets) IsFull G on c.args.steps c.args.machine.now c.run.new.machine c.in_ok-rows.rows c.run.new.log h) c.in-Err-Untold.field-0-is c.in-Err-Untold.ensures in
    never_full G on c.args.steps c.args.machine.now c.run.new.machine c.in_ok-rows.rows c.run.new.log c.in_ok-rows.ensures.items c.in_ok-rows.ensures.len c.in_ok-rows.ensures.capacity cut

pub returns-in-Ok-clause-ok : goal.returns-in-Ok-clause-ok
returns-in-Ok-clause-ok g c =
    told (geometry g.row.SETS g.row.WAYS) (course c.args.choices.now (g.C.Chooser.behind c.run.new.chooser)) c.args.steps c.args.machine.now c.run.new.machine c.in_ok-rows.rows c.run.new.log c.in_ok-rows.ensures.items c.in_ok-rows.ensures.len c.in-Ok.ensures
