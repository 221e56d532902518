use Rattle.std.proofs.Common.{◌≡◌, ◌∙◌, [], ◌∷◌, Some, ap, sym}
use Rattle.std.specs.Option.{option_map}
use Rattle.undo_log.specs.Value.{Log}
use Rattle.undo_log.specs.Log.{popped}
use Rattle.protocol.specs.Hart.{Transaction}
use Rattle.protocol.specs.Core.{abort_move, move_row}
use Rattle.hart.specs.Parts.{Parts}
use Rattle.hart.specs.Shown.{shown_line, shown_record, shown_log, shown_hart}
use Rattle.hart.specs.Rows.{victim_of}
use Rattle.hart.proofs.Logs.{shown-running, shown_log-more, shown_log-empty}
use Rattle.hart.proofs.Rows.{undoes, undo-fetches}
use Rattle.hart.proofs.hart.Hart.abort_step.Goals as goal

pub returns-in-Some-clause-row : goal.returns-in-Some-clause-row
returns-in-Some-clause-row g c = λ output t is.
    let p = c.args.self.now in
    let log = c.log-2.result.now in
    let r = c.newest-record.result in
    let same = c.log-2.ensures ∙ ap (λ (q : Parts). q.tx.log) c.self.view_is in
    let records : t.log ≡ shown_record r ∷ shown_log (popped log) =
    sym (ap (λ (u : Transaction). u.log) (shown-running p.tx t is)) ∙ ap shown_log (sym same) ∙ shown_log-more (popped log) log r c.newest-record.ensures.last in
    let found = c.in-Some.ensures.some in
    undoes p.index (victim_of g.row.SETS p.cache) c.args.cause t (shown_record r) (shown_log (popped log)) (shown_line c.in-Some.line) (shown_hart g.row.SETS output p) records (ap (option_map shown_line) found.0) found.2
    ∙ ap Some (c.undo.ensures.row output t (shown_log (popped log)) is records)

pub returns-in-None-clause-row : goal.returns-in-None-clause-row
returns-in-None-clause-row g c = λ output t is.
    let p = c.args.self.now in
    let log = c.log-2.result.now in
    let r = c.newest-record.result in
    let same = c.log-2.ensures ∙ ap (λ (q : Parts). q.tx.log) c.self.view_is in
    let records : t.log ≡ shown_record r ∷ shown_log (popped log) =
    sym (ap (λ (u : Transaction). u.log) (shown-running p.tx t is)) ∙ ap shown_log (sym same) ∙ shown_log-more (popped log) log r c.newest-record.ensures.last in
    undo-fetches p.index (victim_of g.row.SETS p.cache) c.args.cause t (shown_record r) (shown_log (popped log)) (shown_hart g.row.SETS output p) records c.in-None.ensures.none
    ∙ c.fetch.ensures.row output

pub returns-then-is_empty-clause-row : goal.returns-then-is_empty-clause-row
returns-then-is_empty-clause-row g c = λ output t is.
    let p = c.args.self.now in
    let h = shown_hart g.row.SETS output p in
    let none = ap (λ (log : Log). log.count) (sym c.log.ensures) ∙ c.is_empty.ensures.0 c.if-is_empty.true in
    let empty : t.log ≡ [] =
    sym (ap (λ (q : Parts). shown_log q.tx.log) c.self.view_is ∙ ap (λ (u : Transaction). u.log) (shown-running p.tx t is)) ∙ shown_log-empty c.self.inside.tx.log none in
    ap (λ log. move_row p.index (victim_of g.row.SETS p.cache) (abort_move p.index c.args.cause t log h) h) empty ∙ ap Some (c.end_abort.ensures.row output t c.args.cause is c.requires.aborting)
