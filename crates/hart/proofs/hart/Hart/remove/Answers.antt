use Rattle.std.proofs.Common.{◌∙◌, ap, None, subst}
use Rattle.std.specs.Option.{option_map}
use Rattle.cache.specs.Ways.{holds}
use Rattle.protocol.specs.Evict.{tx_spilled, without_line}
use Rattle.hart.specs.Parts.{Parts}
use Rattle.hart.specs.Shown.{shown_line, shown_tx, shown_hart}
use Rattle.hart.proofs.Views.{parts}
use Rattle.hart.proofs.Lines.{lines-set}
use Rattle.hart.specs.Places.{KeepsWays}
use Rattle.hart.proofs.Places.{line_removed}
use Rattle.hart.proofs.hart.Hart.remove.Goals as goal

pub returns-clause-hart : goal.returns-clause-hart
returns-clause-hart g c = λ output.
    let S = g.row.SETS in
    let old = c.self.inside in
    let line = c.args.line.now in
    let tx = c.note_spill.ensures.shown ∙ ap (λ marked. option_map (tx_spilled marked) (shown_tx old.tx)) c.is_marked.ensures in
    let lines = lines-set (holds line.block) S old.cache c.invalidate.new.self line.block None c.invalidate.ensures.line in
    (λ j. record (shown_hart S output (parts old)) { tx = tx j; kept_stamp = c.note_spill.ensures.stamp j; reserved = c.without_block-self-inside.ensures j; lines = lines j })
    ∙ ap (λ (p : Parts). without_line line.block (shown_line line) (shown_hart S output p)) c.self.view_is

pub returns-clause-ways : goal.returns-clause-ways
returns-clause-ways g c =
    subst (λ (p : Parts). KeepsWays g.row.SETS p.cache c.invalidate.new.self) c.self.view_is (line_removed g.row.SETS c.self.inside.cache c.invalidate.new.self c.args.line.now.block c.invalidate.ensures.line)
