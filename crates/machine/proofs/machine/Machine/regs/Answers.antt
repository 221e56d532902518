use Rattle.std.proofs.Common.{ap, ◌∙◌}
use Rattle.std.specs.Prelude.{slice_get}
use Rattle.std.specs.Option.{option_map}
use Rattle.machine.specs.Reads.{regs_if}
use Rattle.machine.specs.States.{State, shown, geometry}
use Rattle.machine.proofs.Reading.{regs_of, regs_seated, same_regs}
use Rattle.machine.proofs.machine.Machine.regs.Given.{Over}
use Rattle.machine.proofs.machine.Machine.regs.Goals as goal

-- the machine
abbrev here : (g : Over) (c : goal.After-regs_in g) → State
here g c = record { program = c.self.inside.program; seats = c.self.inside.seats.items; directory = c.self.inside.directory; flights = c.self.inside.net.flights; sent = c.self.inside.net.next; stamps = c.self.inside.stamps }

pub returns-clause-value : goal.returns-clause-value
returns-clause-value g c =
    c.regs_in.ensures
    ∙ ap (λ seats. option_map regs_of (slice_get seats c.args.id)) c.deref.ensures.value
    ∙ regs_seated g.row.SETS (here g c) c.args.id
    ∙ ap (λ m. regs_if (shown g.row.SETS m) c.args.id) c.self.view_is

pub returns-clause-flat : goal.returns-clause-flat
returns-clause-flat g c = λ f b. returns-clause-value g c ∙ same_regs (geometry g.row.SETS g.row.WAYS) f (shown g.row.SETS c.args.self.now) c.args.id b
