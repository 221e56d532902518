use Rattle.std.proofs.Common.{Ok, ap}
use Rattle.texts.proofs.Putting.{puts-nothing, puts-same, puts-cut_first, puts-one_first}
use Rattle.pages.specs.Harts.{hart_item}
use Rattle.pages.proofs.harts.put_harts.Goals as goal

pub loop-number-init : goal.loop-number-init
loop-number-init g c = puts-nothing _

pub returns-in_err-put_item : goal.returns-in_err-put_item
returns-in_err-put_item g c =
    puts-cut_first (hart_item c.args.names.now g.row.SETS c.args.machine.now) (rw c.harts-number-end.ensures.value at c.loop-number-test.true) c.loop-number.invariant c.in_err-put_item.was
    (puts-same (ap (hart_item c.args.names.now g.row.SETS c.args.machine.now) c.new.ensures) c.put_item.ensures) c.from_residual.ensures.0

pub loop-number-preserved : goal.loop-number-preserved
loop-number-preserved g c =
    puts-one_first (hart_item c.args.names.now g.row.SETS c.args.machine.now) c.loop-number.invariant
    (puts-same {r = Ok tt} (ap (hart_item c.args.names.now g.row.SETS c.args.machine.now) c.new.ensures) c.in_ok-put_item.ensures)
