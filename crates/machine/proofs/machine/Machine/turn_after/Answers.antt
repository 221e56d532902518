use Rattle.machine.specs.States.{geometry}
use Rattle.machine.proofs.Ending.{over_before}
use Rattle.machine.proofs.machine.Machine.turn_after.Goals as goal

pub returns-clause-over : goal.returns-clause-over
returns-clause-over g c =
    over_before (geometry g.row.SETS g.row.WAYS) c.args.self.now c.step.new.self c.belongs.ensures.0 c.in_ok-entry.entry c.belongs.ensures.1 c.in_ok-entry.ensures.leads
