use Rattle.std.proofs.Common.{◌≡◌, List, Some, length, replicate, sym, ap, subst, ◌∙◌}
use Rattle.words.specs.declared.entry.Entry.{Entry}
use Rattle.words.specs.declared.entry.Step.TheVariants.{Core}
use Rattle.protocol.specs.Machine.{Runs}
use Rattle.isolation.proofs.Leading.{run_leads_on}
use Rattle.hart.specs.Parts.{Parts}
use Rattle.machine.specs.States.{State, shown, geometry, IsSound}
use Rattle.machine.specs.Lent.{hart_if, with_hart, RunsAlone, ComesBack}
use Rattle.machine.proofs.Returning.{seated, back_is, comes_back}
use Rattle.machine.proofs.machine.Machine.adopt.Given.{Over}
use Rattle.machine.proofs.machine.Machine.adopt.Goals as goal

-- the machine before and after
abbrev before : (g : Over) (c : goal.After-self-1 g) → State
before g c = record { program = c.self.inside.program; seats = c.self.inside.seats.items; directory = c.self.inside.directory; flights = c.self.inside.net.flights; sent = c.self.inside.net.next; stamps = c.self.inside.stamps }

abbrev after : (g : Over) (c : goal.After-self-1 g) → State
after g c = seated (before g c) c.index-i.result c.put_hart.new.self

back : (g : Over) (c : goal.After-self-1 g) → ComesBack g.row.SETS (before g c) c.args.id c.args.retired c.args.hart.now
back g c = subst (λ m. ComesBack g.row.SETS m c.args.id c.args.retired c.args.hart.now) (sym c.self.view_is) c.requires

is_with : (g : Over) (c : goal.After-self-1 g) → after g c ≡ with_hart (before g c) c.args.id c.args.hart.now
is_with g c =
    let b = back g c in
    back_is g.row.SETS g.row.WAYS c.args.id (before g c) c.index-i.result c.index_mut.result.now c.put_hart.new.self b.0 c.args.hart.now b.2 c.index-i.ensures.value c.index_mut.ensures.value c.put_hart.ensures

pub invariant_of-self : goal.invariant_of-self
invariant_of-self g c =
    let b = back g c in
    subst (IsSound g.row.SETS g.row.WAYS) (sym (is_with g c)) (comes_back g.row.SETS g.row.WAYS c.args.id (before g c) b.0 c.args.hart.now b.1 c.self.invariant b.2 b.3).1

returned : (g : Over) (c : goal.After-self-1 g) → after g c ≡ with_hart c.args.self.now c.args.id c.args.hart.now
returned g c = is_with g c ∙ ap (λ m. with_hart m c.args.id c.args.hart.now) c.self.view_is

pub returns-clause-hart : goal.returns-clause-hart
returns-clause-hart g c = returned g c

runs : (g : Over) (c : goal.After-self-1 g) → (old : Parts) (es : List Entry) → hart_if c.args.self.now c.args.id ≡ Some old → RunsAlone g.row.SETS c.args.self.now.program.segments old es c.args.hart.now
    → Runs (geometry g.row.SETS g.row.WAYS) (shown g.row.SETS c.args.self.now) (replicate (length es) (Core c.args.id)) es (shown g.row.SETS (after g c))
runs g c old es is run =
    let sound : IsSound g.row.SETS g.row.WAYS c.args.self.now = subst (IsSound g.row.SETS g.row.WAYS) c.self.view_is c.self.invariant in
    subst (λ m. Runs (geometry g.row.SETS g.row.WAYS) (shown g.row.SETS c.args.self.now) (replicate (length es) (Core c.args.id)) es (shown g.row.SETS m)) (sym (returned g c))
    (comes_back g.row.SETS g.row.WAYS c.args.id c.args.self.now old c.args.hart.now es sound is run).0

pub returns-clause-runs : goal.returns-clause-runs
returns-clause-runs g c = λ old es is run. runs g c old es is run

pub returns-clause-leads : goal.returns-clause-leads
returns-clause-leads g c = λ old es is run.
    run_leads_on (geometry g.row.SETS g.row.WAYS) (shown g.row.SETS c.args.self.now) (shown g.row.SETS (after g c)) (replicate (length es) (Core c.args.id)) es (runs g c old es is run)
