use Rattle.machine.specs.States.{geometry}
use Rattle.words.specs.declared.entry.Step.TheVariants.{Core}
use Rattle.watch.proofs.Counted.{none_counted, turn_counted, both_counted}
use Rattle.watch.proofs.rows.catch_up.Goals as goal

pub returns-then-last-clause-turns : goal.returns-then-last-clause-turns
returns-then-last-clause-turns g c = none_counted (geometry g.row.SETS g.row.WAYS) c.args.machine.now c.args.last.hart c.args.tally.now

pub returns-in-Some-clause-turns : goal.returns-in-Some-clause-turns
returns-in-Some-clause-turns g c =
    let G = geometry g.row.SETS g.row.WAYS in
    let a = c.args.last.hart in
    let mid = c.take_arrivals-arrived.new in
    both_counted G c.args.machine.now mid.machine c.resume.new.machine a a c.in-Some.hart c.take_arrivals-arrived.result 1 c.args.tally.now mid.tally c.resume.new.tally (c.take_arrivals-arrived.ensures.turns a)
    (turn_counted G mid.machine c.resume.new.machine a (Core c.in-Some.hart) mid.tally c.resume.new.tally c.in-Some.ensures.turn.0 c.in-Some.ensures.turn.1)
