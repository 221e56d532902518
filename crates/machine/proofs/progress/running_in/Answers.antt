use Rattle.std.proofs.Common.{ap, ◌∙◌, arith, cond, ◌+◌, drop}
use Rattle.protocol.specs.Hart.{is_running}
use Rattle.machine.specs.Turns.{number_running}
use Rattle.machine.specs.States.{Seat}
use Rattle.machine.proofs.Counting.{one_more}
use Rattle.machine.proofs.progress.running_in.Goals as goal
use Rattle.machine.proofs.progress.running_in.Goals.{then-runs, else-runs}

pub loop-seat-preserved : goal.loop-seat-preserved
loop-seat-preserved g c =
    let more = one_more (λ (s : Seat). is_running s.hart.status) c.args.seats.now c.loop-seat.seat-index c.seat-item.result c.runs.result c.loop-seat-test.true c.seat-item.is c.runs.ensures in
    let left = number_running (drop (c.loop-seat.seat-index + 1) c.args.seats.now) in
    elim c.if-runs.branch [
      | then-runs w ↦ (
          let yes = more ∙ ap (λ b. cond b 1 0 + left) w.if-runs.true in
          (omega (arith, w.running-is, yes, c.loop-seat.invariant.0), omega (arith, w.running-is, c.loop-seat.invariant.1))
          )
      | else-runs w ↦ (
          let no = more ∙ ap (λ b. cond b 1 0 + left) w.if-runs.false in
          (omega (arith, w.running-is, no, c.loop-seat.invariant.0), omega (arith, w.running-is, c.loop-seat.invariant.1))
          )
    ]
