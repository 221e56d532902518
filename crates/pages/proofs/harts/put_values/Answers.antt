use Rattle.std.proofs.Common.{Ok, ap, ◌∙◌}
use Rattle.texts.proofs.Putting.{puts-nothing, puts-same, puts-cut_first, puts-one_first}
use Rattle.pages.specs.Harts.{number_item, register_item}
use Rattle.pages.proofs.harts.put_values.Goals as goal

pub loop-number-init : goal.loop-number-init
loop-number-init g c = puts-nothing _

pub returns-in_err-put_value : goal.returns-in_err-put_value
returns-in_err-put_value g c =
    puts-cut_first (register_item c.args.regs.now) c.loop-number-test.true c.loop-number.invariant c.in_err-put_value.was
    (puts-same (ap number_item c.read.ensures ∙ ap (register_item c.args.regs.now) c.new.ensures) c.put_value.ensures) c.from_residual.ensures.0

pub loop-number-preserved : goal.loop-number-preserved
loop-number-preserved g c =
    puts-one_first (register_item c.args.regs.now) c.loop-number.invariant
    (puts-same {r = Ok tt} (ap number_item c.read.ensures ∙ ap (register_item c.args.regs.now) c.new.ensures) c.in_ok-put_value.ensures)
