use Rattle.std.proofs.Common.{◌≡◌, ◌<◌, length, get_or, arith, sym, ap, subst, ◌∙◌}
use Rattle.machine.specs.States.{State, Seat, shown, geometry}
use Rattle.machine.proofs.Reading.{seat_at, looks_same}
use Rattle.machine.proofs.machine.Machine.output.Given.{Over}
use Rattle.machine.proofs.machine.Machine.output.Goals as goal

-- the machine, and the seat that is read
abbrev here : (g : Over) (c : goal.After-deref g) → State
here g c = record { program = c.self.inside.program; seats = c.self.inside.seats.items; directory = c.self.inside.directory; flights = c.self.inside.net.flights; sent = c.self.inside.net.next; stamps = c.self.inside.stamps }

abbrev seat : (g : Over) (c : goal.After-deref g) → Seat
seat g c = record { hart = c.behind-self.inside.hart; output = c.behind-self.inside.output.items }

pub returns-clause-flat : goal.returns-clause-flat
returns-clause-flat g c = λ f b.
    let count : length (here g c).seats ≡ length c.args.self.now.seats = ap (λ (m : State). length m.seats) c.self.view_is in
    let inside : c.index.result < length (here g c).seats = omega (arith, c.requires, c.index.ensures.value, count) in
    let at : seat g c ≡ get_or (here g c).seats c.index.result (seat g c) = subst (λ s. s ≡ get_or (here g c).seats c.index.result s) (sym c.behind-self.view_is) c.index-2.ensures in
    c.deref.ensures.value
    ∙ ap (λ h. h.output) (seat_at g.row.SETS (here g c).seats c.index.result (seat g c) inside at)
    ∙ (λ k. ((shown g.row.SETS (c.self.view_is k)).harts (c.index.ensures.value k)).output)
    ∙ (looks_same (geometry g.row.SETS g.row.WAYS) f (shown g.row.SETS c.args.self.now) c.args.id b).output
