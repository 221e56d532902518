use Rattle.std.proofs.Common.{◌≡◌, ◌∙◌, Some, None, Result, true, false, is_some, ap, sym, subst}
use Rattle.std.specs.Prelude.{IsOkAnd}
use Rattle.words.specs.declared.cause.Cause.{Cause}
use Rattle.table.specs.declared.effect.Effect.{Effect}
use Rattle.protocol.specs.Hart.{Transaction, is_running}
use Rattle.protocol.specs.Core.{effect_move}
use Rattle.hart.specs.Parts.{Parts}
use Rattle.conflict.specs.Requests.{shown_request}
use Rattle.hart.specs.Shown.{shown_tx, shown_hart}
use Rattle.hart.specs.Rows.{setting_of}
use Rattle.hart.specs.Locals.{needs_hub}
use Rattle.hart.proofs.Logs.{shown-running}
use Rattle.hart.proofs.Rows.{none_shown}
use Rattle.hart.proofs.Alone.{follows-alone, runs-on, is_absent}
use Rattle.hart.proofs.hart.Hart.local.Goals as goal

pub returns-clause-step : goal.returns-clause-step
returns-clause-step g c =
    let S = g.row.SETS in
    let p = c.args.self.now in
    let s = setting_of c.args.text.now.segments.now p in
    let e = c.in-Ok.next.effect in
    let w = c.in-Ok.next.word in
    let running : is_running p.status ≡ true = ap (λ (q : Parts). is_running q.status) (sym c.self.view_is) ∙ sym c.is_running.ensures ∙ c.if-not-is_running.false in
    let free : is_some p.request ≡ false = ap (λ (q : Parts). is_some q.request) (sym c.self.view_is) ∙ sym c.is_some.ensures ∙ c.if-is_some.false in
    let lasting : p.tx.aborting ≡ None =
    ap (λ (q : Parts). q.tx.aborting) (sym c.self.view_is) ∙ sym c.aborting.ensures.value ∙ is_absent c.aborting.result (sym c.is_some-else-is_some.ensures ∙ c.if-is_some-2.false) in
    let going = λ (t : Transaction) (is : shown_tx p.tx ≡ Some t). ap (λ (u : Transaction). u.aborting) (sym (shown-running p.tx t is)) ∙ lasting in
    follows-alone S s p c.perform_alone.new.self c.perform_alone.result (λ output taken. effect_move p.index taken w e e.act (shown_hart S output p))
    (λ output taken. runs-on s p.index taken w e (shown_hart S output p) running (none_shown shown_request p.request free) going c.in-Ok.ensures.effect c.in-Ok.ensures.word)
    (λ output. subst (λ (r : Result Effect Cause). IsOkAnd r (λ does. needs_hub (shown_tx p.tx) does.act ≡ false)) (sym c.in-Ok.ensures.effect) (sym c.needs_hub.ensures ∙ c.if-needs_hub.false))
    c.perform_alone.ensures.step
