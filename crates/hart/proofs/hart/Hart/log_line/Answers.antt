use Rattle.std.proofs.Common.{◌<◌, ◌∙◌, ◌&&◌, nat_le, length, ap, sym, subst}
use Rattle.words.specs.Limits.{log_records}
use Rattle.hart.specs.Parts.{Parts}
use Rattle.hart.specs.Shown.{running, shown_log}
use Rattle.hart.proofs.Logs.{runs}
use Rattle.hart.proofs.hart.Hart.log_line.Goals as goal

pub returns-clause-room : goal.returns-clause-room
returns-clause-room g c =
    let old = c.self.inside.tx in
    let some : 0 < old.depth = subst (λ (p : Parts). 0 < p.tx.depth) (sym c.self.view_is) c.requires.running in
    let due = sym c.is_log_due.ensures ∙ c.if-not-is_log_due.false in
    ap (λ b. b && nat_le log_records (length (shown_log c.args.self.now.tx.log))) due
    ∙ ap (λ (p : Parts). nat_le log_records (length (shown_log p.tx.log))) (sym c.self.view_is)
    ∙ c.append_record.ensures.room (running old) (runs old some)
