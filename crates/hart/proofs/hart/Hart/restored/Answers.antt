use Rattle.std.proofs.Common.{◌∙◌, sym, ap, List}
use Rattle.undo_log.specs.Log.{records}
use Rattle.protocol.specs.Hart.{LogRecord}
use Rattle.protocol.specs.Values as protocol
use Rattle.hart.proofs.Logs.{log_of-shown, restored-shown}
use Rattle.hart.proofs.hart.Hart.restored.Goals as goal

pub returns : goal.returns
returns g c =
    let log = c.self.inside.tx.log in
    rw (← c.self.view_is) (rw (c.log.ensures) at c.restored.ensures
    ∙ sym (restored-shown (records log) c.args.block c.args.now)
    ∙ sym (ap (λ (rs : List LogRecord). protocol.restored rs c.args.block c.args.now) (log_of-shown c.self.inside.tx (λ e. (c.self.invariant.0.tx.idle e).log))))
