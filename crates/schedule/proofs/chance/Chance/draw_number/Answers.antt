use Rattle.std.proofs.Common.{sym, ◌∙◌}
use Rattle.schedule.proofs.Resting.{nothing_in_flight}
use Rattle.schedule.proofs.chance.Chance.draw_number.Goals as goal

pub returns-then-in_flight-eq0-clause-none : goal.returns-then-in_flight-eq0-clause-none
returns-then-in_flight-eq0-clause-none g c = λ number. nothing_in_flight g.row.SETS g.row.WAYS c.args.machine.now number (sym c.in_flight-in_flight.ensures ∙ c.if-in_flight-eq0.true)
