use Rattle.std.proofs.Common.{◌*◌, ◌≤◌, arith}
use Rattle.std.proofs.lemmas.Result.{err_from_is_err_and}
use native.Mathlib.Nat.{mul-le-mul_left}
use Rattle.machine.specs.States.{geometry}
use Rattle.simulate.proofs.ThreadedRuns.{unreadable, all_ready}
use Rattle.simulate.proofs.threads.make_ready.Goals as goal

pub returns-in_err-addrs : goal.returns-in_err-addrs
returns-in_err-addrs g c =
    let p = err_from_is_err_and c.from_residual-in_err-addrs.result c.from_residual-in_err-addrs.ensures.1 in
    rw (p.1, p.2) (unreadable c.args.run.now c.args.code.program.now (geometry g.row.SETS g.row.WAYS) c.in_ok-board.board.board.machine c.machine.result.now c.in_ok-board.ensures.ok.boots c.in_ok-board.ensures.ok.machine c.machine.ensures
    c.deref.result.now c.deref.ensures.value c.in_err-addrs.field-0.0 c.in_err-addrs.ensures.refused)

pub returns : goal.returns
returns g c =
    all_ready c.args.run.now c.args.code.program.now (geometry g.row.SETS g.row.WAYS) c.in_ok-board.board.board.machine c.machine.result.now c.in_ok-board.ensures.ok.boots c.in_ok-board.ensures.ok.machine c.machine.ensures
    c.deref.result.now c.deref.ensures.value c.in_ok-addrs.addrs.items c.in_ok-addrs.ensures.same c.in_ok-addrs.ensures.all

-- a machine has a size that fits: it has no more sets than lines
pub drop-board-inside-requires-in_err-addrs-2-room-T-Destruct : goal.drop-board-inside-requires-in_err-addrs-2-room-T-Destruct
drop-board-inside-requires-in_err-addrs-2-room-T-Destruct g c κs = let few : g.row.SETS * 1 ≤ g.row.SETS * g.row.WAYS = mul-le-mul_left g.row.SETS c.requires.ways in omega arith
