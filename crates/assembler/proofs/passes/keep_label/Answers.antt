use Rattle.std.proofs.Common.{sym, ◌∙◌}
use Rattle.assembler.proofs.Labels.{label_kept}
use Rattle.assembler.proofs.passes.keep_label.Goals as goal

pub returns-in-Ok : goal.returns-in-Ok
returns-in-Ok c =
    rw c.in-Some.is (label_kept c.in-Some.label.now c.args.at c.args.labels.now c.insert.new.self c.in-Ok.ensures.updates (sym c.contains_key.ensures ∙ c.if-contains_key.false))
