use Rattle.std.proofs.Common.{◌∙◌, ap}
use Rattle.protocol.specs.Hart.{HartResult}
use Rattle.hart.specs.Shown.{shown_tx, shown_hart}
use Rattle.hart.proofs.Rows.{begins}
use Rattle.hart.proofs.Views.{parts}
use Rattle.hart.proofs.hart.Hart.begin.Goals as goal

pub returns-clause-row : goal.returns-clause-row
returns-clause-row g c = λ output.
    let S = g.row.SETS in
    let old = c.self.inside in
    let new = c.begin-stamped.new.tx in
    let none = c.reserved_begun-self-inside in
    let h = shown_hart S output (parts old) in
    let k = shown_hart S output (record (parts old) { tx = new; reserved = none.result }) in
    let did = c.begin-stamped.ensures in
    rw (← c.self.view_is) (begins old.index c.args.taken c.args.word c.args.abort_pc c.args.effect.now (shown_tx old.tx) h k c.begin-stamped.result
    (λ e. (λ j. record h { tx = (did.outside e).0 j; kept_stamp = (did.outside e).1 j; reserved = none.ensures.outside e j }, (did.outside e).2))
    (λ t e. (λ j. record h { tx = (did.inside t e).0 j; kept_stamp = (did.inside t e).1 j; reserved = none.ensures.inside t e j }, (did.inside t e).2))
    ∙ ap (λ (r : HartResult). record r { stamped = c.begin-stamped.result }) (c.retire-step.ensures.row output))
