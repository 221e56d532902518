use Rattle.std.proofs.Common.{◌∙◌, ℕ, List, Some, refl, ap, sym}
use Rattle.protocol.specs.Core.{commit_row}
use Rattle.hart.specs.Shown.{shown_tx, shown_hart}
use Rattle.hart.specs.Rows.{setting_of, victim_of, advanced}
use Rattle.hart.proofs.Misses.{delimits, quietly, commit_silent}
use Rattle.hart.proofs.hart.Hart.commit_next.Goals as goal

pub returns-clause-row : goal.returns-clause-row
returns-clause-row g c = λ taken output.
    let S = g.row.SETS in
    let p = c.args.self.now in
    let next = c.in_ok-next.next in
    let new = c.commit-made.new.self in
    let row = λ (out : List ℕ). commit_row p.index next.word next.effect (shown_tx p.tx) (shown_hart S out p) in
    delimits (setting_of c.args.text.now.segments.now p) p.index taken next.word (victim_of S p.cache) (shown_hart S output p) _ next.effect _ (row output) c.in_ok-next.ensures.effect c.in_ok-next.ensures.act (c.requires.word ∙ ap Some (sym c.in_ok-next.ensures.word)) refl
    ∙ ap Some (
    quietly S new c.commit-made.result row c.commit-made.ensures.row
    (λ out. (commit_silent p.index next.word next.effect (shown_tx p.tx) (shown_hart S out p) c.in_ok-next.ensures.act).0)
    (λ out. (commit_silent p.index next.word next.effect (shown_tx p.tx) (shown_hart S out p) c.in_ok-next.ensures.act).1)
    output
    ∙ ap (advanced S output new) (sym c.delimits.ensures)
    )
