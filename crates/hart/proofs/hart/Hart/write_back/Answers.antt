use Rattle.std.proofs.Common.{◌≡◌, ◌∙◌, ap, sym}
use Rattle.protocol.specs.Evict.{write_back_row}
use Rattle.hart.specs.Parts.{Parts}
use Rattle.hart.specs.Shown.{shown_line, shown_hart}
use Rattle.hart.proofs.Rows.{written_back}
use Rattle.hart.proofs.hart.Hart.write_back.Goals as goal

pub returns-clause-row : goal.returns-clause-row
returns-clause-row g c = λ output.
    let line = c.args.line.now in
    let h = shown_hart g.row.SETS output c.args.self.now in
    let index : c.args.self.now.index ≡ c.self.inside.index = sym (ap (λ (p : Parts). p.index) c.self.view_is ∙ c.remove.ensures.stays.index) in
    ap (λ i. write_back_row i line.block (shown_line line) h) index
    ∙ written_back c.self.inside.index line.block (shown_line line) h _ _ _ (ap (shown_hart g.row.SETS output) c.self.view_is ∙ c.remove.ensures.hart output) c.is_marked-marked.ensures c.spill_of.ensures
