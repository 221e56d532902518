use Rattle.std.proofs.Common.{◌≡◌, ◌∙◌, sym, ap, List}
use Rattle.undo_log.specs.Log.{records}
use Rattle.undo_log.specs.Undo.{holds}
use Rattle.protocol.specs.Hart.{LogRecord}
use Rattle.protocol.specs.Values as protocol
use Rattle.hart.proofs.Logs.{log_of-shown, is_logged-shown}
use Rattle.hart.proofs.hart.Hart.is_logged.Goals as goal

pub returns : goal.returns
returns g c =
    let tx = c.self.inside.tx in
    let held : c.holds.result ≡ holds (records tx.log) c.args.block = rw (c.log.ensures) at c.holds.ensures in
    rw (← c.self.view_is) (held
    ∙ sym (is_logged-shown (records tx.log) c.args.block)
    ∙ sym (ap (λ (rs : List LogRecord). protocol.is_logged rs c.args.block) (log_of-shown tx (λ e. (c.self.invariant.0.tx.idle e).log))))
