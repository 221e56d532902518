use Rattle.std.proofs.Common.{Ok, ap}
use Rattle.texts.proofs.Putting.{puts-nothing, puts-same, puts-cut_first, puts-one_first}
use Rattle.render.specs.Registers.{register_text, registers_text}
use Rattle.render.proofs.registers.put_values.Goals as goal

pub loop-number-init : goal.loop-number-init
unfolding registers_text
loop-number-init g c = puts-nothing _

pub returns-in_err-put_register : goal.returns-in_err-put_register
unfolding registers_text
returns-in_err-put_register g c =
    puts-cut_first (register_text c.args.regs.now) c.loop-number-test.true c.loop-number.invariant c.in_err-put_register.was
    (puts-same (ap (register_text c.args.regs.now) c.new.ensures) c.put_register.ensures) c.from_residual.ensures.0

pub loop-number-preserved : goal.loop-number-preserved
unfolding registers_text
loop-number-preserved g c =
    puts-one_first (register_text c.args.regs.now) c.loop-number.invariant
    (puts-same {r = Ok tt} (ap (register_text c.args.regs.now) c.new.ensures) c.in_ok-put_register.ensures)
