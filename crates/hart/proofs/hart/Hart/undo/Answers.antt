use Rattle.std.proofs.Common.{◌≡◌, ◌<◌, ◌∙◌, ap, sym, subst, Some, List}
use Rattle.undo_log.specs.Log.{newest_of}
use Rattle.transaction.specs.Transactions.{kept_stamp}
use Rattle.cache.specs.Ways.{holds}
use Rattle.flat.specs.Bytes.{put_at}
use Rattle.protocol.specs.Lines.{line_undone}
use Rattle.protocol.specs.Hart.{LogRecord}
use Rattle.hart.specs.Parts.{Parts}
use Rattle.hart.specs.Shown.{shown_line, shown_record, shown_tx, shown_hart, lines_of}
use Rattle.hart.proofs.Views.{parts}
use Rattle.hart.proofs.Lines.{lines-set}
use Rattle.hart.proofs.Logs.{rest-shown}
use Rattle.hart.proofs.Rows.{undone}
use Rattle.hart.proofs.Stores.{absent-replaced}
use Rattle.hart.specs.Places.{KeepsWays}
use Rattle.hart.proofs.Places.{line_replaced}
use Rattle.hart.proofs.hart.Hart.undo.Goals as goal

pub invariant_of-self : goal.invariant_of-self
invariant_of-self g c = (
  record {
    few = c.self.invariant.0.few;
    tx = c.pop_record.ensures.kept;
    waits = λ r is none. c.replace.ensures.rooms r.block (c.self.invariant.0.waits r is (absent-replaced g.row.SETS c.self.inside.cache c.replace.new.self _ r.block c.replace.ensures.line none));
  },
  c.self.invariant.1,
)

pub returns-clause-row : goal.returns-clause-row
returns-clause-row g c = λ output t rest is this.
    let S = g.row.SETS in
    let r = c.args.newest.now in
    let line = c.args.line.now in
    let old = c.self.inside in
    let new = c.pop_record.new.tx in
    let runs : 0 < old.tx.depth = subst (λ (p : Parts). 0 < p.tx.depth) (sym c.self.view_is) c.requires.running in
    let shows : shown_tx old.tx ≡ Some t = ap (λ (p : Parts). shown_tx p.tx) c.self.view_is ∙ is in
    let tx = c.pop_record.ensures.shown t shows ∙ ap (λ (xs : List LogRecord). Some (record t { log = xs })) (rest-shown old.tx t new.log r (newest_of old.tx.log) rest runs shows this c.pop_record.ensures.log) in
    let lines = lines-set (holds line.block) S old.cache c.replace.new.self line.block _ c.replace.ensures.line
    ∙ ap (λ b. put_at b (Some (line_undone r.before (shown_line line))) (lines_of S old.cache)) c.requires.block in
    rw (c.quiet.ensures, ← c.self.view_is) (undone t (shown_record r) rest (shown_line line) (shown_hart S output (parts old)) (shown_tx new) (kept_stamp new) (lines_of S c.replace.new.self) tx c.pop_record.ensures.stamp lines)

pub returns-clause-ways : goal.returns-clause-ways
returns-clause-ways g c = subst (λ (p : Parts). KeepsWays g.row.SETS p.cache c.replace.new.self) c.self.view_is (line_replaced g.row.SETS c.self.inside.cache c.replace.new.self _ c.replace.ensures.line)
