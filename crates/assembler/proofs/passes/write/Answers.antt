use Rattle.std.proofs.Common.{sym, ◌∙◌, refl, ap, [], option_map, length, arith}
use Rattle.statements.specs.Places.{labels_of}
use Rattle.assembler.specs.Progress.{start}
use Rattle.assembler.specs.Passes.{lay, lay_line}
use Rattle.assembler.proofs.Passing.{pass_on, pass_fails, fewer}
use Rattle.assembler.proofs.passes.write.Goals as goal

pub lines-init : goal.lines-init
unfolding lay
lines-init c = (
  (
    record { progress = start; text = []; data_made = [] },
    refl,
    sym c.start-progress.ensures,
    record {
      text_made = c.requires.no_text;
      data_made = c.requires.no_data;
      text_size = ap length c.requires.no_text;
      data_size = ap length c.requires.no_data;
      most = omega arith;
    },
  ),
  omega arith,
)

pub returns-in-Err : goal.returns-in-Err
returns-in-Err c = λ fatal.
    let k = c.lines.invariant.0 in
    sym (rw c.in-Some.is at k.1)
    ∙ pass_fails (lay_line (labels_of c.args.names.now)) c.lines.number c.in-Some.text.now c.cut.result.0.now (option_map (λ x. x.now) c.cut.result.1) k.0 c.in-Err.fault c.cut.ensures.cut
    (c.in-Err.ensures k.0 k.2 k.3 fatal)

pub lines-preserved : goal.lines-preserved
lines-preserved c =
    let k = c.lines.invariant.0 in
    let m = c.in-Ok.ensures k.0 k.2 k.3 in
    let on = pass_on (lay_line (labels_of c.args.names.now)) c.lines.number c.in-Some.text.now c.cut.result.0.now (option_map (λ x. x.now) c.cut.result.1) k.0 m.0 c.cut.ensures.cut m.1 in
    ((m.0, sym on ∙ rw c.in-Some.is at k.1, m.2, m.3), fewer c.cut.result.1 c.lines.number (length c.in-Some.text.now) _ c.cut.ensures.shorter (rw c.in-Some.is at c.lines.invariant.1))
