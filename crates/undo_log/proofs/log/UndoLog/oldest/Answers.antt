use Rattle.std.proofs.Common.{◌==◌, ◌∙◌, Some, sym, ap, arith}
use Rattle.undo_log.specs.declared.record.Record.{Record}
use Rattle.undo_log.specs.Value.{Log}
use Rattle.undo_log.specs.Log.{records}
use Rattle.undo_log.specs.Undo.{oldest}
use Rattle.undo_log.proofs.Listed.{oldest-passed, oldest-found}
use Rattle.undo_log.proofs.log.UndoLog.oldest.Goals as goal

pub returns-then-eq : goal.returns-then-eq
returns-then-eq c =
    let read = c.read_record-record.ensures in
    let here = ap (λ (r : Record). r.block == c.args.block) (sym read) ∙ sym c.eq.ensures ∙ c.if-eq.true in
    ap (λ (r : Record). Some r) read
    ∙ sym (oldest-found c.self.inside.bytes c.loop-k.k c.self.inside.count c.args.block (omega arith) c.loop-k.invariant here)
    ∙ ap (λ (log : Log). oldest (records log) c.args.block) c.self.view_is

pub loop-k-preserved : goal.loop-k-preserved
loop-k-preserved c =
    let other = ap (λ (r : Record). r.block == c.args.block) (sym c.read_record-record.ensures) ∙ sym c.eq.ensures ∙ c.if-eq.false in
    oldest-passed c.self.inside.bytes c.loop-k.k c.args.block c.loop-k.invariant other
