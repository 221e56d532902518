use Rattle.texts.proofs.Putting.{puts-nothing, puts-cut_at}
use Rattle.texts.proofs.put.put_all.Goals as goal

pub loop-piece-init : goal.loop-piece-init
loop-piece-init g c = puts-nothing _

pub returns-in_err-put : goal.returns-in_err-put
returns-in_err-put g c =
    let put = c.put.ensures in
    puts-cut_at (λ p. p.now) c.args.pieces.now c.loop-piece.piece-index _ c.loop-piece-test.true c.loop-piece.invariant c.in_err-put.was (record { whole = put.all; clean = put.clean; part = put.part; fault = put.fault }) c.from_residual.ensures.0
