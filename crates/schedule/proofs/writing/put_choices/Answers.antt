use Rattle.std.proofs.Common.{◌≡◌, ◌++◌, Ok, List, ℕ, ap, arith, codes, take, take_all}
use Rattle.texts.proofs.Putting.{puts-nothing, puts-same, puts-cut_at, puts-one_more}
use Rattle.schedule.specs.declared.choices.Choice.{Choice}
use Rattle.schedule.specs.Written.{line_of, text_of}
use Rattle.schedule.proofs.writing.put_choices.Goals as goal

abbrev whole_line : Choice → List ℕ
whole_line c = line_of c ++ codes "\n"

pub loop-choice-init : goal.loop-choice-init
loop-choice-init g c = puts-nothing _

pub returns-in_err-put_line : goal.returns-in_err-put_line
returns-in_err-put_line g c =
    puts-cut_at whole_line c.args.choices.now c.loop-choice.choice-index c.choice-item.result c.loop-choice-test.true c.loop-choice.invariant c.in_err-put_line.was
    (puts-same (ap whole_line c.choice-item.is) c.put_line.ensures) c.from_residual.ensures.0

pub loop-choice-preserved : goal.loop-choice-preserved
loop-choice-preserved g c =
    puts-one_more whole_line c.args.choices.now c.loop-choice.choice-index c.choice-item.result c.loop-choice-test.true c.loop-choice.invariant
    (puts-same {r = Ok tt} (ap whole_line c.choice-item.is) c.in_ok-put_line.ensures)

pub returns : goal.returns
returns g c =
    let whole : take c.loop-choice.choice-index c.args.choices.now ≡ c.args.choices.now = take_all c.loop-choice.choice-index c.args.choices.now (omega (arith, c.loop-choice-test.false)) in
    puts-same {r = Ok tt} (ap text_of whole) c.loop-choice.invariant
