use Rattle.std.proofs.Common.{◌≡◌, ◌∙◌, ◌∷◌, ap, sym}
use Rattle.std.specs.Prelude.{is_some}
use Rattle.undo_log.specs.Log.{popped}
use Rattle.words.specs.declared.message.Kind.TheVariants.{Write}
use Rattle.protocol.specs.Hart.{Transaction}
use Rattle.hart.specs.Parts.{Parts}
use Rattle.hart.specs.Shown.{shown_record, shown_log, shown_hart}
use Rattle.hart.specs.Rows.{victim_of}
use Rattle.hart.proofs.Logs.{shown-running, shown_log-more}
use Rattle.hart.proofs.Rows.{undo-fetches}
use Rattle.hart.proofs.hart.Hart.can_abort_on.Goals as goal

pub returns-in-None : goal.returns-in-None
returns-in-None g c = λ output cause t is.
    let p = c.args.self.now in
    let log = c.log-2.result.now in
    let r = c.newest-block.result in
    let same = c.log-2.ensures ∙ ap (λ (q : Parts). q.tx.log) c.self.view_is in
    let records : t.log ≡ shown_record r ∷ shown_log (popped log) =
    sym (ap (λ (u : Transaction). u.log) (shown-running p.tx t is)) ∙ ap shown_log (sym same) ∙ shown_log-more (popped log) log r c.newest-block.ensures.last in
    c.can_fetch.ensures output Write
    ∙ ap is_some (sym (undo-fetches p.index (victim_of g.row.SETS p.cache) cause t (shown_record r) (shown_log (popped log)) (shown_hart g.row.SETS output p) records c.in-None.ensures.none))
