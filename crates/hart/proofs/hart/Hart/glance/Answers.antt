use Rattle.std.proofs.Common.{◌∙◌, ap, sym}
use Rattle.std.specs.Prelude.{not}
use Rattle.conflict.specs.Requests.{shown_request, shown_put}
use Rattle.protocol.specs.Hart.{is_running}
use Rattle.hart.specs.Parts.{Parts}
use Rattle.hart.specs.Shown.{shown_hart}
use Rattle.hart.specs.Rows.{setting_of, victim_of}
use Rattle.hart.proofs.Going.{goes_on}
use Rattle.hart.proofs.Rows.{none_shown}
use Rattle.hart.proofs.hart.Hart.glance.Goals as goal

pub returns-then-is_none-clause-row : goal.returns-then-is_none-clause-row
returns-then-is_none-clause-row g c = λ segments output taken.
    let p = c.args.self.now in
    let runs = ap (λ (q : Parts). is_running q.status) (sym c.self.view_is) ∙ sym c.is_running.ensures ∙ c.if-not-is_running.false in
    let asks = none_shown shown_request c.self.inside.request (sym c.is_some.ensures ∙ c.if-is_some.false) in
    let free = none_shown shown_put c.self.inside.put (c.is_none.ensures ∙ ap not c.if-is_none.true) in
    sym (goes_on _ (setting_of segments p) p.index taken (victim_of g.row.SETS p.cache) (shown_hart g.row.SETS output p) runs
    (ap (λ (q : Parts). (shown_hart g.row.SETS output q).request) (sym c.self.view_is) ∙ asks)
    (ap (λ (q : Parts). (shown_hart g.row.SETS output q).put) (sym c.self.view_is) ∙ free)
    c.keeps_victims.ensures)
