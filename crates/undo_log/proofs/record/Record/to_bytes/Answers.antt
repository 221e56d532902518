use Rattle.std.proofs.Common.{◌*◌, ◌∙◌, arith, rules}
use Rattle.std.proofs.lemmas.List.{places}
use Rattle.undo_log.proofs.Words.{pieces-more}
use Rattle.undo_log.proofs.record.Record.to_bytes.Goals as goal

pub loop-k-preserved : goal.loop-k-preserved
loop-k-preserved c =
    let r = c.args.self.now in
    let written = c.copy_from_slice-in-loop-k.ensures.after ∙ c.to_le_bytes-in-loop-k.ensures in
    (search (rules, places), pieces-more _ _ (32 * r.block) r.before c.loop-k.k _ (omega (arith, c.loop-k.invariant.0)) (omega arith) written c.loop-k.invariant.1)
