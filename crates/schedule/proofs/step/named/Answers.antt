use Rattle.std.proofs.Common.{arith, sym, subst}
use Rattle.protocol.specs.Messages.{shown as shown_message}
use Rattle.isolation.specs.Memory.{LiesInMemory}
use Rattle.machine.specs.States.{setting_of}
use Rattle.schedule.specs.declared.choices.Name.{Name}
use Rattle.schedule.proofs.Naming.{message_within}
use Rattle.schedule.proofs.step.named.Goals as goal

pub returns-clause-within : goal.returns-clause-within
returns-clause-within g c = (
  omega (arith, c.index-few.ensures.value, c.index-few.ensures.bound),
  subst (λ (n : Name). LiesInMemory (setting_of c.args.machine.now) n.block) (sym c.name_of-name.ensures)
      (message_within g.row.SETS g.row.WAYS c.args.machine.now c.keeps.ensures c.args.number (shown_message c.in_ok-message.message) (sym c.in_ok-message.ensures.value)),
)
