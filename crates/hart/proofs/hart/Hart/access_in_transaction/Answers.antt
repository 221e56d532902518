use Rattle.std.proofs.Common.{◌≡◌, ◌∙◌, ◌/◌, ℕ, true, not, Some, ap, sym, subst}
use Rattle.protocol.specs.Hart.{Hart, with_line}
use Rattle.protocol.specs.Lines.{byte_in, line_used}
use Rattle.protocol.specs.Core.{start_abort_row, retire_row, tx_used}
use Rattle.words.specs.declared.cause.AbortCause.TheVariants.{LogFull}
use Rattle.hart.specs.Parts.{Parts}
use Rattle.hart.specs.Shown.{shown_line, shown_tx, running, shown_hart}
use Rattle.hart.proofs.Logs.{runs}
use Rattle.hart.proofs.Rows.{access-full, access-fits}
use Rattle.hart.specs.Places.{KeepsWays}
use Rattle.hart.proofs.Places.{none_moves}
use Rattle.hart.proofs.hart.Hart.access_in_transaction.Goals as goal

pub returns-then-not-log_line-clause-row : goal.returns-then-not-log_line-clause-row
returns-then-not-log_line-clause-row g c = λ output.
    let a = c.args in
    let h = shown_hart g.row.SETS output a.self.now in
    let t = running a.self.now.tx in
    let same : c.log_line.new.self ≡ a.self.now = c.log_line.ensures.full c.if-not-log_line.true in
    access-full a.self.now.index a.word a.effect.now a.m.now a.kept (shown_line a.line.now) t h (c.log_line.ensures.room ∙ ap not c.if-not-log_line.true)
    ∙ ap (λ (p : Parts). start_abort_row LogFull t (shown_hart g.row.SETS output p)) (sym same)
    ∙ c.start_abort.ensures.row output t (ap (λ (p : Parts). shown_tx p.tx) same ∙ runs a.self.now.tx c.requires.running)

pub returns-clause-row : goal.returns-clause-row
returns-clause-row g c = λ output.
    let a = c.args in
    let view = byte_in a.line.now.content in
    let l = shown_line a.line.now in
    let t = running a.self.now.tx in
    let h = shown_hart g.row.SETS output a.self.now in
    let at = λ (k : Hart). with_line (a.m.now.addr / 32) (Some (line_used true a.m.now l)) k in
    access-fits a.self.now.index a.word a.effect.now a.m.now a.kept l t h (c.log_line.ensures.room ∙ ap not c.if-not-log_line.false)
    ∙ ap (λ (i : ℕ). retire_row i view a.word a.effect.now (at (record h { tx = Some (tx_used a.m.now l t); reserved = a.kept }))) (sym c.log_line.ensures.stays.index)
    ∙ ap (λ k. retire_row c.log_line.new.self.index view a.word a.effect.now (at (record k { reserved = a.kept }))) (sym (c.log_line.ensures.ok c.if-not-log_line.false output))
    ∙ c.access_logged.ensures.row output

pub returns-then-not-log_line-clause-ways : goal.returns-then-not-log_line-clause-ways
returns-then-not-log_line-clause-ways g c = none_moves g.row.SETS c.args.self.now.cache c.start_abort.new.self.cache (c.start_abort.ensures.cache ∙ c.log_line.ensures.cache)

pub returns-clause-ways : goal.returns-clause-ways
returns-clause-ways g c = subst (λ sets. KeepsWays g.row.SETS sets c.access_logged.new.self.cache) c.log_line.ensures.cache c.access_logged.ensures.ways
