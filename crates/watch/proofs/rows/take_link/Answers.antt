use Rattle.machine.specs.States.{geometry}
use Rattle.watch.proofs.Counted.{both_counted}
use Rattle.watch.proofs.rows.take_link.Goals as goal

-- the step comes behind the words
pub returns-clause-turns : goal.returns-clause-turns
returns-clause-turns g c =
    let words = c.take_words-words in
    let step = c.take_step-more in
    both_counted (geometry g.row.SETS g.row.WAYS) c.args.machine.now words.new.machine step.new.machine c.args.after words.result.1 step.result.1.hart words.result.0 step.result.0
    c.args.tally.now words.new.tally step.new.tally words.ensures.turns step.ensures.turns
