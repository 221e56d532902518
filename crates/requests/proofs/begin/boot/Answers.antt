use Rattle.std.proofs.Common.{◌≡◌, None}
use Rattle.std.proofs.lemmas.Result.{err_from_is_err_and}
use Rattle.flat.specs.Boots.{boot_fault, booted}
use Rattle.protocol.specs.Start.{start}
use Rattle.machine.specs.States.{shown}
use Rattle.requests.proofs.Starting.{booted-no_fault, refused-fault, boot-start_fault}
use Rattle.requests.proofs.begin.boot.Goals as goal

pub returns-in_err-machine : goal.returns-in_err-machine
returns-in_err-machine g c =
    let p = err_from_is_err_and c.from_residual-in_err-machine.result c.from_residual-in_err-machine.ensures.1 in
    let program = c.in_ok-program.program in
    let setup = c.args.setup.now in
    rw (p.1, p.2) (boot-start_fault setup c.args.file.now program c.in_err-machine.field-0.0 c.in_ok-program.ensures
    (refused-fault (boot_fault program.segments setup.harts setup.memory) c.boot.result c.in_err-machine.field-0.0
    (λ m. shown g.row.SETS m ≡ start (booted program.segments program.entry setup.harts setup.memory).setting program.entry) c.in_err-machine.was c.boot.ensures.refused c.boot.ensures.accepted))

pub returns : goal.returns
returns g c =
    let program = c.in_ok-program.program in
    let setup = c.args.setup.now in
    let boots : boot_fault program.segments setup.harts setup.memory ≡ None = booted-no_fault (boot_fault program.segments setup.harts setup.memory) c.boot.result c.in_ok-machine.machine c.in_ok-machine.was c.boot.ensures.refused in
    record {
      program = program;
      holds = c.in_ok-program.ensures;
      first = record { boots = boots; begins = c.in_ok-machine.ensures.accepted boots; unused = c.in_ok-machine.ensures.unused };
      belongs = c.in_ok-machine.ensures.belongs;
    }
