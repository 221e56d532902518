use Rattle.std.proofs.Common.{sym}
use Rattle.schedule.proofs.Resting.{nothing_numbered}
use Rattle.schedule.proofs.enabled.can_arrive.Goals as goal

pub returns-in-None : goal.returns-in-None
returns-in-None g c = nothing_numbered g.row.SETS g.row.WAYS c.args.machine.now c.args.number (sym c.in-None.ensures)
