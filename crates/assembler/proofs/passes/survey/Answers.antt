use Rattle.std.proofs.Common.{sym, ◌∙◌, option_map, length}
use Rattle.assembler.specs.Passes.{survey_line}
use Rattle.assembler.proofs.Passing.{pass_on, pass_fails, fewer}
use Rattle.assembler.proofs.passes.survey.Goals as goal

pub returns-in-Err : goal.returns-in-Err
returns-in-Err c = λ fatal.
    sym (rw c.in-Some.is at c.lines.invariant.0)
    ∙ pass_fails survey_line c.lines.number c.in-Some.text.now c.cut.result.0.now (option_map (λ x. x.now) c.cut.result.1) _ c.in-Err.fault c.cut.ensures.cut (c.in-Err.ensures fatal)

pub lines-preserved : goal.lines-preserved
lines-preserved c =
    let on = pass_on survey_line c.lines.number c.in-Some.text.now c.cut.result.0.now (option_map (λ x. x.now) c.cut.result.1) _ _ c.cut.ensures.cut c.in-Ok.ensures in
    (sym on ∙ rw c.in-Some.is at c.lines.invariant.0, fewer c.cut.result.1 c.lines.number (length c.in-Some.text.now) _ c.cut.ensures.shorter (rw c.in-Some.is at c.lines.invariant.1))
