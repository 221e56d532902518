use Rattle.std.proofs.Common.{Some, None, false, sym, subst, ap, ◌∙◌}
use Rattle.std.specs.Prelude.{nat_lt, not}
use Rattle.std.specs.Option.{option_map}
use Rattle.words.specs.declared.entry.Step.{Step}
use Rattle.words.specs.declared.entry.Step.TheVariants.{Deliver}
use Rattle.protocol.specs.Messages.{shown as shown_message, block_of}
use Rattle.machine.specs.States.{State, shown, geometry, setting_of}
use Rattle.machine.specs.Watch.{IsEnabledByRule}
use Rattle.machine.proofs.Enabled.{no_message, arrives_if}
use Rattle.machine.proofs.machine.Machine.has_row.Goals as goal

pub returns-in-None : goal.returns-in-None
returns-in-None g c =
    let here : State = record { program = c.self.inside.program; seats = c.self.inside.seats.items; directory = c.self.inside.directory; flights = c.self.inside.net.flights; sent = c.self.inside.net.next; stamps = c.self.inside.stamps } in
    subst (λ (s : Step). IsEnabledByRule (geometry g.row.SETS g.row.WAYS) c.args.self.now s false) (sym c.in-Deliver.is)
    (subst (λ (m : State). IsEnabledByRule (geometry g.row.SETS g.row.WAYS) m (Deliver c.in-Deliver.number) false) c.self.view_is
    (no_message g.row.SETS g.row.WAYS c.in-Deliver.number here (ap (option_map shown_message) (sym c.in-None.ensures))))

pub returns-in-Some-receiver : goal.returns-in-Some-receiver
returns-in-Some-receiver g c =
    let here : State = record { program = c.self.inside.program; seats = c.self.inside.seats.items; directory = c.self.inside.directory; flights = c.self.inside.net.flights; sent = c.self.inside.net.next; stamps = c.self.inside.stamps } in
    subst (λ (s : Step). IsEnabledByRule (geometry g.row.SETS g.row.WAYS) c.args.self.now s (nat_lt c.index.result c.harts.result)) (sym c.in-Deliver.is)
    (subst (λ (m : State). IsEnabledByRule (geometry g.row.SETS g.row.WAYS) m (Deliver c.in-Deliver.number) (nat_lt c.index.result c.harts.result)) c.self.view_is
    (arrives_if g.row.SETS g.row.WAYS c.in-Deliver.number here (shown_message c.in-Some.message.now) (Some c.in-Some-receiver.id) _ (ap (option_map shown_message) (sym c.in-Some.ensures)) (sym c.in-Some-receiver.ensures)
    (λ k. nat_lt (c.index.ensures.value k) ((c.harts.ensures.value ∙ sym c.self.invariant.count) k))))

pub returns-in-None-receiver : goal.returns-in-None-receiver
returns-in-None-receiver g c =
    let here : State = record { program = c.self.inside.program; seats = c.self.inside.seats.items; directory = c.self.inside.directory; flights = c.self.inside.net.flights; sent = c.self.inside.net.next; stamps = c.self.inside.stamps } in
    subst (λ (s : Step). IsEnabledByRule (geometry g.row.SETS g.row.WAYS) c.args.self.now s (not c.is_held.result)) (sym c.in-Deliver.is)
    (subst (λ (m : State). IsEnabledByRule (geometry g.row.SETS g.row.WAYS) m (Deliver c.in-Deliver.number) (not c.is_held.result)) c.self.view_is
    (arrives_if g.row.SETS g.row.WAYS c.in-Deliver.number here (shown_message c.in-Some.message.now) None _ (ap (option_map shown_message) (sym c.in-Some.ensures)) (sym c.in-None-receiver.ensures)
    (ap not (c.is_held.ensures (setting_of here).count ((shown g.row.SETS here).memory (block_of (shown_message c.in-Some.message.now)))))))

pub returns-in-Core : goal.returns-in-Core
returns-in-Core g c = subst (λ (s : Step). IsEnabledByRule (geometry g.row.SETS g.row.WAYS) c.args.self.now s c.is_core_enabled.result) (sym c.in-Core.is) c.is_core_enabled.ensures
