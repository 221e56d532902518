use Rattle.machine.specs.States.{geometry}
use Rattle.board.proofs.Replays.{replay_flat}
use Rattle.board.proofs.Courses.{kept_replay}
use Rattle.board.proofs.turn.Board+SETS+WAYS+Replay+A.replays.Goals as goal

pub returns-clause-flat : goal.returns-clause-flat
returns-clause-flat g c =
    let b = c.self.inside in
    let replay = kept_replay (geometry g.row.SETS g.row.WAYS) b.code.program.now b.harts b.size b.journal.history.items b.journal.entries.items b.machine c.self.invariant.0 in
    rw (← c.self.view_is) (replay_flat (geometry g.row.SETS g.row.WAYS) b.code.program.now b.harts b.size b.journal.history.items b.machine b.journal.entries.items c.self.invariant.2 replay)
