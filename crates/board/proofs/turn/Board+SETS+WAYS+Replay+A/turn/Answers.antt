use Rattle.machine.specs.States.{geometry}
use Rattle.board.specs.Histories.{IsOf}
use Rattle.board.proofs.Courses.{kept_step, kept_segments}
use Rattle.board.proofs.turn.Board+SETS+WAYS+Replay+A.turn.Goals as goal

pub invariant_of-self : goal.invariant_of-self
invariant_of-self g c =
    let b = c.self.inside in
    let j = c.step.new.self in
    let k = kept_step (geometry g.row.SETS g.row.WAYS) b.code.program.now b.harts b.size b.journal.history.items j.history.items b.journal.entries.items j.entries.items b.machine c.step.new.machine c.args.step c.step.result
    c.self.invariant.0 c.step.ensures.made c.step.ensures.history c.step.ensures.entries c.step.ensures.err in
    (k, kept_segments (geometry g.row.SETS g.row.WAYS) b.code.program.now b.harts b.size (IsOf j.history.items j.entries.items) c.step.new.machine k, c.self.invariant.2, c.self.invariant.3, c.self.invariant.4)
