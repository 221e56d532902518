use Rattle.std.proofs.Common.{sym, subst}
use Rattle.machine.specs.States.{geometry}
use Rattle.machine.specs.Turns.{TakesMany}
use Rattle.machine.proofs.Arriving.{served_turns}
use Rattle.machine.proofs.machine.Machine.serve_unheard.Goals as goal

pub returns-in-Some-clause-turns : goal.returns-in-Some-clause-turns
returns-in-Some-clause-turns g c =
    let G = geometry g.row.SETS g.row.WAYS in
    let served = c.in-Some.ensures.served in
    λ after. subst (λ n. TakesMany G c.args.self.now after n c.serve.new.self after) (sym c.turns.ensures) (served_turns G c.args.self.now c.serve.new.self c.in-Some.service served.0 served.1 after)
