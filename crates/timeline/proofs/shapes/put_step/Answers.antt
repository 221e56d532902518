use Rattle.std.proofs.Common.{◌++◌, codes}
use Rattle.texts.proofs.Putting.{puts-both, puts-cut}
use Rattle.timeline.specs.Marks.{label_of}
use Rattle.timeline.specs.Shapes.{mark}
use Rattle.timeline.proofs.shapes.put_step.Goals as goal

pub returns-in_err-put_number : goal.returns-in_err-put_number
returns-in_err-put_number g c =
    let row = c.args.row.now in
    puts-cut (mark c.args.harts row ++ (label_of row.step row.arrival row.entry ++ codes "</text></g>\n")) c.in_err-put_number.was c.put_number.ensures c.from_residual.ensures.0

pub returns-in_err-put_mark : goal.returns-in_err-put_mark
returns-in_err-put_mark g c =
    let row = c.args.row.now in
    puts-both c.in_ok-put_number.ensures (puts-cut (label_of row.step row.arrival row.entry ++ codes "</text></g>\n") c.in_err-put_mark.was c.put_mark.ensures c.from_residual-in_err-put_mark.ensures.0)

pub returns-in_err-put_label : goal.returns-in_err-put_label
returns-in_err-put_label g c =
    puts-both c.in_ok-put_number.ensures (puts-both c.in_ok-put_mark.ensures (puts-cut (codes "</text></g>\n") c.in_err-put_label.was c.put_label.ensures c.from_residual-in_err-put_label.ensures.0))

pub returns : goal.returns
returns g c = puts-both c.in_ok-put_number.ensures (puts-both c.in_ok-put_mark.ensures (puts-both c.in_ok-put_label.ensures c.put_all.ensures))
