use Rattle.std.proofs.Common.{◌≤◌, ℕ, subst}
use Rattle.machine.specs.States.{geometry}
use Rattle.board.specs.Leases.{most_steps}
use Rattle.board.specs.Boards.{Held}
use Rattle.board.proofs.Courses.{kept_lent, kept_segments}
use Rattle.board.proofs.Turns.{settled, noted_of}
use Rattle.board.proofs.board.Board.take_over.Goals as goal

pub invariant_of-self-2 : goal.invariant_of-self-2
invariant_of-self-2 g c =
    let b = c.self.inside in
    let l = c.args.lease.now in
    let noted = noted_of g.J.Trace.Trace.traces g.J.Journal.tells b.journal c.note_lent.new.self l c.hart.result c.len.result c.trace.result.now c.hart.ensures c.len.ensures.value c.trace.ensures c.in_ok-note_lent.ensures.noted in
    let k = kept_lent (geometry g.row.SETS g.row.WAYS) b.code.program.now b.harts b.size g.J.Trace.Trace.traces (g.J.Journal.tells b.journal) (g.J.Journal.tells c.note_lent.new.self) b.machine c.take_back.new.machine l c.self.invariant.0
    c.take_back.ensures.few c.take_back.ensures.leads noted in
    (k, kept_segments (geometry g.row.SETS g.row.WAYS) b.code.program.now b.harts b.size (g.J.Journal.tells c.note_lent.new.self) c.take_back.new.machine k, c.self.invariant.2, c.self.invariant.3, c.self.invariant.4)

pub returns-clause-ok : goal.returns-clause-ok
returns-clause-ok g c =
    let b : Held g.row.J.Denot = record { program = c.self.inside.code.program.now; harts = c.self.inside.harts; size = c.self.inside.size; machine = c.self.inside.machine; journal = c.self.inside.journal } in
    let noted = noted_of g.J.Trace.Trace.traces g.J.Journal.tells b.journal c.note_lent.new.self c.args.lease.now c.hart.result c.len.result c.trace.result.now c.hart.ensures c.len.ensures.value c.trace.ensures c.in_ok-note_lent.ensures.noted in
    rw (← c.self.view_is) (settled (geometry g.row.SETS g.row.WAYS) g.J.Journal.tells b c.take_back.new.machine c.note_lent.new.self g.J.Trace.Trace.traces c.args.lease.now c.take_back.ensures.few (subst (λ (n : ℕ). n ≤ most_steps) c.len.ensures.value c.len.ensures.few) c.take_back.ensures.hart c.take_back.ensures.leads noted)
