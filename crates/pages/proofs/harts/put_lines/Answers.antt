use Rattle.std.proofs.Common.{ap, Ok, ◌∙◌}
use Rattle.texts.proofs.Putting.{puts-same}
use Rattle.machine.specs.States.{shown}
use Rattle.pages.specs.Harts.{kept_line, line_item}
use Rattle.pages.proofs.Lists.{up_to-start, up_to-more, up_to-cut, up_to-end}
use Rattle.pages.proofs.harts.put_lines.Goals as goal

pub loop-number-init : goal.loop-number-init
loop-number-init g c =
    up_to-start (kept_line g.row.SETS c.args.machine.now c.args.hart) c.args.machine.now.directory.kept c.into_iter-number-iterator.result _ (c.into_iter-number-iterator.ensures.into_iter_gives.0 ∙ c.kept-number-items.ensures.entries)

pub returns-in_err-put_line : goal.returns-in_err-put_line
returns-in_err-put_line g c =
    up_to-cut (kept_line g.row.SETS c.args.machine.now c.args.hart) {x = (c.in-Some.number.now, c.in-Some._entry.now)} (rw c.in-Some.ensures.steps at c.loop-number.invariant) c.in_err-put_line.was
    (puts-same (ap (λ b. line_item b (((shown g.row.SETS c.args.machine.now).harts c.args.hart).lines b)) c.new.ensures) c.put_line.ensures) c.from_residual.ensures.0

pub loop-number-preserved : goal.loop-number-preserved
loop-number-preserved g c =
    up_to-more (kept_line g.row.SETS c.args.machine.now c.args.hart) {x = (c.in-Some.number.now, c.in-Some._entry.now)} (rw c.in-Some.ensures.steps at c.loop-number.invariant)
    (puts-same {r = Ok tt} (ap (λ b. line_item b (((shown g.row.SETS c.args.machine.now).harts c.args.hart).lines b)) c.new.ensures) c.in_ok-put_line.ensures)

pub returns : goal.returns
returns g c = up_to-end (kept_line g.row.SETS c.args.machine.now c.args.hart) (rw c.in-None.ensures.steps.0 at c.loop-number.invariant)
