use Rattle.std.proofs.Common.{◌∙◌, ap}
use Rattle.protocol.specs.Evict.{spill_of}
use Rattle.hart.specs.Shown.{shown_line, shown_hart}
use Rattle.hart.proofs.Rows.{dropped}
use Rattle.hart.proofs.hart.Hart.drop_line.Goals as goal

pub returns-clause-row : goal.returns-clause-row
returns-clause-row g c = λ output.
    let line = c.args.line.now in
    dropped c.args.self.now.index line.block (shown_line line) (shown_hart g.row.SETS output c.args.self.now) _ _ (c.remove.ensures.hart output)
    (c.spill_of.ensures ∙ ap (λ i. spill_of i line.block (shown_line line)) c.remove.ensures.stays.index)
