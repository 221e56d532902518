use Rattle.std.proofs.Common.{subst}
use Rattle.machine.specs.States.{State, geometry}
use Rattle.machine.proofs.Naming.{IsAlone, alone}
use Rattle.machine.proofs.machine.Machine.message.Goals as goal

pub returns-clause-alone : goal.returns-clause-alone
returns-clause-alone g c =
    let here : State = record { program = c.self.inside.program; seats = c.self.inside.seats.items; directory = c.self.inside.directory; flights = c.self.inside.net.flights; sent = c.self.inside.net.next; stamps = c.self.inside.stamps } in
    subst (λ (m : State). IsAlone g.row.SETS m c.args.number c.get.result) c.self.view_is
    (alone (geometry g.row.SETS g.row.WAYS) c.self.invariant.flat here c.args.number c.get.result c.self.invariant.belongs c.get.ensures)
