use Rattle.std.proofs.Common.{◌++◌, codes}
use Rattle.texts.proofs.Putting.{puts-both, puts-cut}
use Rattle.timeline.specs.Marks.{label_of}
use Rattle.timeline.proofs.events.put_slice.Goals as goal

pub returns-in_err-put_slice_head : goal.returns-in_err-put_slice_head
returns-in_err-put_slice_head g c =
    puts-cut (label_of c.args.step.now c.args.arrival.now c.args.entry.now ++ codes "\"}") c.in_err-put_slice_head.was c.put_slice_head.ensures c.from_residual.ensures.0

pub returns-in_err-put_label : goal.returns-in_err-put_label
returns-in_err-put_label g c = puts-both c.in_ok-put_slice_head.ensures (puts-cut (codes "\"}") c.in_err-put_label.was c.put_label.ensures c.from_residual-in_err-put_label.ensures.0)

pub returns : goal.returns
returns g c = puts-both c.in_ok-put_slice_head.ensures (puts-both c.in_ok-put_label.ensures c.put_all.ensures)
