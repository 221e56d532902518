use Rattle.std.proofs.Common.{◌∙◌, ℕ, List, Some, refl, ap, sym}
use Rattle.protocol.specs.Core.{begin_row}
use Rattle.hart.specs.Shown.{shown_tx, shown_hart}
use Rattle.hart.specs.Rows.{setting_of, victim_of, advanced}
use Rattle.hart.proofs.Misses.{delimits, quietly, begin_silent}
use Rattle.hart.proofs.hart.Hart.begin_next.Goals as goal

pub returns-clause-row : goal.returns-clause-row
returns-clause-row g c = λ output.
    let S = g.row.SETS in
    let p = c.args.self.now in
    let next = c.in_ok-next.next in
    let new = c.begin-made.new.self in
    let row = λ (out : List ℕ). begin_row p.index c.args.taken next.word next.effect c.args.abort_pc (shown_tx p.tx) (shown_hart S out p) in
    delimits (setting_of c.args.text.now.segments.now p) p.index c.args.taken next.word (victim_of S p.cache) (shown_hart S output p) _ next.effect _ (row output) c.in_ok-next.ensures.effect c.in_ok-next.ensures.act (c.requires.word ∙ ap Some (sym c.in_ok-next.ensures.word)) refl
    ∙ ap Some (
    quietly S new c.begin-made.result row c.begin-made.ensures.row
    (λ out. (begin_silent p.index c.args.taken next.word c.args.abort_pc next.effect (shown_tx p.tx) (shown_hart S out p) c.in_ok-next.ensures.act).0)
    (λ out. (begin_silent p.index c.args.taken next.word c.args.abort_pc next.effect (shown_tx p.tx) (shown_hart S out p) c.in_ok-next.ensures.act).1)
    output
    ∙ ap (advanced S output new) (sym c.delimits.ensures)
    )
