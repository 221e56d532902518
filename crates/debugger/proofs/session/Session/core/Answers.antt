use Rattle.std.proofs.Common.{ap}
use Rattle.machine.specs.States.{geometry}
use Rattle.debugger.specs.Sessions.{Session}
use Rattle.debugger.proofs.Placed.{told_core}
use Rattle.debugger.proofs.session.Session.core.Goals as goal

pub returns-clause-told : goal.returns-clause-told
returns-clause-told g c = told_core (geometry g.row.SETS g.row.WAYS) c.args.self.now c.choose.new.self c.self.inside.machine c.args.hart c.in_ok-hart.hart c.hart_of.result c.choose.result
    (ap (λ (s : Session). s.machine) c.self.view_is) c.in_ok-hart.was c.hart_of.ensures c.choose.ensures
