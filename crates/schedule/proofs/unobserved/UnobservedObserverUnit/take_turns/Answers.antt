use Rattle.std.proofs.Common.{inr}
use Rattle.machine.specs.States.{geometry}
use Rattle.schedule.proofs.Taken.{took_many}
use Rattle.schedule.proofs.unobserved.UnobservedObserverUnit.take_turns.Goals as goal

pub returns-clause-turns : goal.returns-clause-turns
returns-clause-turns g c =
    let took = took_many (geometry g.row.SETS g.row.WAYS) c.args.machine.now c.take_turns.new.self c.args.last.hart c.take_turns.result.0 c.take_turns.result.1.hart c.take_turns.ensures.turns in
    inr (took.0, took.1, took.2, tt)
