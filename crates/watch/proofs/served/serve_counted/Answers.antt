use Rattle.std.proofs.Common.{arith, sym, subst}
use Rattle.machine.specs.States.{geometry}
use Rattle.watch.specs.Runs.{TakesCounted}
use Rattle.watch.proofs.Services.{refusals_within, served_counted}
use Rattle.watch.proofs.served.serve_counted.Goals as goal

-- no more refuse than answer
pub note_served-requires : goal.note_served-requires
note_served-requires g c =
    let served = c.in-Some.ensures.served in
    let told = served.1.told in
    let within = refusals_within served.0 in
    omega (arith, told.number_is, told.refusals_is, within)

pub returns-in-Some-clause-turns : goal.returns-in-Some-clause-turns
returns-in-Some-clause-turns g c =
    let served = c.in-Some.ensures.served in
    let G = geometry g.row.SETS g.row.WAYS in
    let counted = served_counted G c.args.machine.now c.serve.new.machine c.in-Some.service served.0 served.1 c.are_in_order.ensures.numbered c.args.tally.now c.serve.new.tally c.note_served.new.tally served.2 c.note_served.ensures in
    λ after. subst (λ n. TakesCounted G c.args.machine.now after n c.serve.new.machine after c.args.tally.now c.note_served.new.tally) (sym c.turns.ensures) (counted after)
