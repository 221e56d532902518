use Rattle.std.proofs.Common.{arith, subst₂, sym}
use Rattle.words.specs.declared.entry.Step.TheVariants.{Core}
use Rattle.machine.specs.States.{State, geometry}
use Rattle.watch.specs.declared.recording.Lines.{Lines}
use Rattle.watch.specs.Rows.{AddsTurns}
use Rattle.watch.proofs.RowLines.{words_added, turn_added, both_added, heard_longer}
use Rattle.watch.proofs.recording.Lines.add_words.Goals as goal

-- the turn comes behind the words
pub returns-in-Some-clause-turns : goal.returns-in-Some-clause-turns
returns-in-Some-clause-turns g c =
    let G = geometry g.row.SETS g.row.WAYS in
    let row = c.hear_few_turns-row in
    let heard = row.ensures.turns in
    let hart = row.result.last.hart in
    let turn = c.in-Some.ensures.turn in
    let x = c.args.self.now in
    let y = row.new.listener in
    let z = c.hear_common_turn.new.listener in
    let long = heard_longer heard.0 x y heard.3 in
    both_added G c.args.machine.now row.new.self c.hear_common_turn.new.self c.args.last.hart hart c.in-Some.hart row.result.turns 1 x y z
    (words_added G c.args.machine.now row.new.self c.args.last.hart hart heard.0 x y row.result.turns c.args.most heard.2 row.ensures.most c.requires.room heard.1 heard.3)
    (turn_added G row.new.self c.hear_common_turn.new.self hart (Core c.in-Some.hart) turn.0 y z turn.1.next turn.1.made turn.2 (omega (arith, long, heard.2, row.ensures.most, c.requires.room, c.if-row-most.false)))

-- and no turn where there is none
pub returns-in-None-clause-turns : goal.returns-in-None-clause-turns
returns-in-None-clause-turns g c =
    let G = geometry g.row.SETS g.row.WAYS in
    let row = c.hear_few_turns-row in
    let heard = row.ensures.turns in
    let last = row.result.last.hart in
    let same = c.in-None.ensures.none in
    subst₂ (λ (m : State) (y : Lines). AddsTurns G c.args.machine.now c.args.last.hart row.result.turns m last c.args.self.now y) (sym same.0) (sym same.1)
    (words_added G c.args.machine.now row.new.self c.args.last.hart last heard.0 c.args.self.now row.new.listener row.result.turns c.args.most heard.2 row.ensures.most c.requires.room heard.1 heard.3)

pub returns-then-row-most-clause-turns : goal.returns-then-row-most-clause-turns
returns-then-row-most-clause-turns g c =
    let row = c.hear_few_turns-row in
    let heard = row.ensures.turns in
    words_added (geometry g.row.SETS g.row.WAYS) c.args.machine.now row.new.self c.args.last.hart row.result.last.hart heard.0 c.args.self.now row.new.listener row.result.turns c.args.most heard.2 row.ensures.most c.requires.room heard.1 heard.3
