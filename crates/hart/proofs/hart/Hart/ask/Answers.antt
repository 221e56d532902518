use Rattle.std.proofs.Common.{◌∙◌, None, Some, false, ap, sym}
use Rattle.protocol.specs.Messages.{Get}
use Rattle.protocol.specs.Hart.{stamp_of}
use Rattle.hart.specs.Parts.{Parts}
use Rattle.hart.specs.Shown.{shown_tx}
use Rattle.hart.specs.Rows.{stepped}
use Rattle.hart.proofs.hart.Hart.ask.Goals as goal

pub returns-clause-row : goal.returns-clause-row
returns-clause-row g c = λ output.
    let a = c.args in
    let new = c.wait_for.new.self in
    let index = sym c.wait_for.ensures.stays.index ∙ ap (λ (p : Parts). p.index) (sym c.self.view_is) in
    let stamp = ap (λ tx. stamp_of (shown_tx tx)) (sym c.wait_for.ensures.tx) ∙ sym c.stamp.ensures in
    (λ j. record { hart = sym (c.wait_for.ensures.hart output) j; sent = Some (Get (index j) a.block a.kind (stamp j)); entry = None; stamped = false })
    ∙ ap (stepped g.row.SETS output new) (sym c.sends.ensures)
