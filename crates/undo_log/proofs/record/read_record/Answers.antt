use Rattle.std.proofs.Common.{◌/◌, ◌∙◌, ℕ, arith, sym, ap}
use Rattle.undo_log.proofs.Words.{record_at-is}
use Rattle.undo_log.proofs.record.read_record.Goals as goal

pub returns : goal.returns
returns c =
    let address = sym (c.new.ensures ∙ ap (λ (w : ℕ). w / 32) c.read_word-2.ensures) in
    sym (record_at-is _ _ _ _ address c.loop-k.invariant.0 (λ k lt. c.loop-k.invariant.1 k (omega arith)))
