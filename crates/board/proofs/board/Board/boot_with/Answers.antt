use Rattle.std.proofs.Common.{ap, refl, arith}
use Rattle.protocol.specs.Machine.{Machine}
use Rattle.machine.specs.States.{geometry}
use Rattle.board.proofs.Replays.{Begins, begins_of_copy}
use Rattle.board.proofs.Courses.{kept_first}
use Rattle.board.proofs.board.Board.boot_with.Goals as goal

pub invariant_of-result : goal.invariant_of-result
invariant_of-result g c =
    let b : Begins (geometry g.row.SETS g.row.WAYS) c.args.code.program.now c.args.harts c.args.size c.in_ok-machine.machine =
    begins_of_copy (geometry g.row.SETS g.row.WAYS) c.args.code.program.now c.in_ok-copy.field-0 c.args.harts c.args.size c.in_ok-machine.machine c.in_ok-copy.ensures c.in_ok-machine.ensures.refused c.in_ok-machine.ensures.accepted c.in_ok-machine.ensures.belongs c.in_ok-machine.ensures.unused in (
      kept_first (geometry g.row.SETS g.row.WAYS) c.args.code.program.now c.args.harts c.args.size (g.J.Journal.tells c.args.journal) c.in_ok-machine.machine b c.requires.told,
      ap (λ (m : Machine). m.setting.segments) b.machine,
      b.bytes,
      c.requires.lines,
      omega arith,
    )

pub returns-clause-ok : goal.returns-clause-ok
returns-clause-ok g c =
    let b : Begins (geometry g.row.SETS g.row.WAYS) c.args.code.program.now c.args.harts c.args.size c.in_ok-machine.machine =
    begins_of_copy (geometry g.row.SETS g.row.WAYS) c.args.code.program.now c.in_ok-copy.field-0 c.args.harts c.args.size c.in_ok-machine.machine c.in_ok-copy.ensures c.in_ok-machine.ensures.refused c.in_ok-machine.ensures.accepted c.in_ok-machine.ensures.belongs c.in_ok-machine.ensures.unused in
    record { boots = b.boots; machine = b.machine; unused = b.unused; bytes = b.bytes; rest = refl }
