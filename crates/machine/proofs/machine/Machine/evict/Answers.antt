use Rattle.std.proofs.Common.{◌≡◌, ◌≤◌, arith, length, None, get_or, refl, sym, ap, subst, subst₂}
use Rattle.std.specs.Prelude.{slice_set}
use Rattle.words.specs.declared.entry.Step.TheVariants.{Evict}
use Rattle.directory.specs.Blocks.{KeepsUsed}
use Rattle.network.specs.Flights.{AreInOrder}
use Rattle.machine.specs.Making.{MakesStep}
use Rattle.machine.specs.States.{State, Seat, geometry, IsSound}
use Rattle.machine.proofs.Acting.{Acts, rests_still}
use Rattle.machine.proofs.Steps.{of_none, evicts, evicts_nothing}
use Rattle.std.specs.Prelude.{option_to_list}
use Rattle.std.specs.Option.{option_map}
use Rattle.protocol.specs.Messages.{shown as shown_message}
use Rattle.machine.specs.Mail.{SendsOn, mail_of}
use Rattle.machine.proofs.Staying.{seats_stay, logs_stay}
use Rattle.machine.proofs.machine.Machine.evict.Given.{Over}
use Rattle.machine.proofs.machine.Machine.evict.Goals as goal

pub returns-then-i-len-clause-steps : goal.returns-then-i-len-clause-steps
returns-then-i-len-clause-steps g c =
    let v : State = c.args.self.now in
    let count : length c.self.inside.seats.items ≡ length v.seats = ap (λ (m : State). length m.seats) c.self.view_is in
    let past : length v.seats ≤ c.args.id = omega (arith, c.len.ensures, c.index-i.ensures.value, c.if-i-len.true, count) in
    record { may = tt {0}; made = of_none g.row.SETS c.args.id v _ past; ways = seats_stay g.row.SETS v v refl; logs = logs_stay v v refl; kept = subst (λ (m : State). KeepsUsed m.directory) c.self.view_is c.self.invariant.kept; order = subst (λ (m : State). AreInOrder m.flights) c.self.view_is c.self.invariant.order }

-- the machine before and after, and the seat
abbrev before : (g : Over) (c : goal.After-send g) → State
before g c = record { program = c.self.inside.program; seats = c.self.inside.seats.items; directory = c.self.inside.directory; flights = c.self.inside.net.flights; sent = c.self.inside.net.next; stamps = c.self.inside.stamps }

abbrev old_seat : (g : Over) (c : goal.After-send g) → Seat
old_seat g c = record { hart = c.behind-self.inside.hart; output = c.behind-self.inside.output.items }

abbrev new_seat : (g : Over) (c : goal.After-send g) → Seat
new_seat g c = record { hart = c.evict.new.self; output = c.behind-self.inside.output.items }

abbrev after : (g : Over) (c : goal.After-send g) → State
after g c = record (before g c) { seats = slice_set (before g c).seats c.index-i.result (new_seat g c); flights = c.send.new.net.flights; sent = c.send.new.net.next }

-- the line is given up
gives_up : (g : Over) (c : goal.After-send g) → MakesStep (geometry g.row.SETS g.row.WAYS) (before g c) (Evict c.index-i.result c.args.block) c.in-Some.reply.entry (after g c) × IsSound g.row.SETS g.row.WAYS (after g c)
gives_up g c =
    let acts : Acts c.index-i.result (before g c) (after g c) (old_seat g c) (new_seat g c) = record {
      number = omega (arith, c.len.ensures, c.if-i-len.false);
      before = subst (λ s. s ≡ get_or (before g c).seats c.index-i.result s) (sym c.behind-self.view_is) c.index_mut.ensures.value;
      after = refl;
      program = refl;
      directory = refl;
      stays = c.evict.ensures.stays;
    } in
    evicts g.row.SETS g.row.WAYS c.index-i.result c.args.block (before g c) (after g c) (old_seat g c) (new_seat g c) c.in-Some.reply c.self.invariant acts refl refl c.evict.ensures.ways c.in-Some.ensures.row
    (subst₂ (λ f n. SendsOn (mail_of f) n (option_to_list (option_map shown_message c.in-Some.reply.message)) (mail_of (after g c).flights) (after g c).sent) c.reserve.ensures.same c.reserve.ensures.number c.send.ensures.sent) c.send.ensures.order

pub invariant_of-self-in-Some : goal.invariant_of-self-in-Some
invariant_of-self-in-Some g c = (gives_up g c).1

pub returns-in-Some-clause-steps : goal.returns-in-Some-clause-steps
returns-in-Some-clause-steps g c =
    subst (λ m. MakesStep (geometry g.row.SETS g.row.WAYS) m (Evict c.args.id c.args.block) c.in-Some.reply.entry (after g c)) c.self.view_is
    (subst (λ n. MakesStep (geometry g.row.SETS g.row.WAYS) (before g c) (Evict n c.args.block) c.in-Some.reply.entry (after g c)) c.index-i.ensures.value (gives_up g c).0)

-- no line is given up

-- the machine, the seats, and the machine that is left
abbrev still : (g : Over) (c : goal.In-None g) → State
still g c = record { program = c.self.inside.program; seats = c.self.inside.seats.items; directory = c.self.inside.directory; flights = c.self.inside.net.flights; sent = c.self.inside.net.next; stamps = c.self.inside.stamps }

abbrev seat : (g : Over) (c : goal.In-None g) → Seat
seat g c = record { hart = c.behind-self.inside.hart; output = c.behind-self.inside.output.items }

abbrev seat_left : (g : Over) (c : goal.In-None g) → Seat
seat_left g c = record { hart = c.evict.new.self; output = c.behind-self.inside.output.items }

abbrev left : (g : Over) (c : goal.In-None g) → State
left g c = record (still g c) { seats = slice_set (still g c).seats c.index-i.result (seat_left g c); flights = c.reserve.new.self.flights; sent = c.reserve.new.self.next }

acts_none : (g : Over) (c : goal.In-None g) → Acts c.index-i.result (still g c) (left g c) (seat g c) (seat_left g c)
acts_none g c = record {
  number = omega (arith, c.len.ensures, c.if-i-len.false);
  before = subst (λ s. s ≡ get_or (still g c).seats c.index-i.result s) (sym c.behind-self.view_is) c.index_mut.ensures.value;
  after = refl;
  program = refl;
  directory = refl;
  stays = c.evict.ensures.stays;
}

stays : (g : Over) (c : goal.In-None g) → left g c ≡ still g c
stays g c = rests_still c.index-i.result (still g c) (left g c) (seat g c) (seat_left g c) (acts_none g c) (λ k. record (seat g c) { hart = c.in-None.ensures.none k }) c.reserve.ensures.same c.reserve.ensures.number refl

pub invariant_of-self-in-None : goal.invariant_of-self-in-None
invariant_of-self-in-None g c = subst (IsSound g.row.SETS g.row.WAYS) (sym (stays g c)) c.self.invariant

pub returns-in-None-clause-steps : goal.returns-in-None-clause-steps
returns-in-None-clause-steps g c =
    subst (λ m. MakesStep (geometry g.row.SETS g.row.WAYS) m (Evict c.args.id c.args.block) None (left g c)) c.self.view_is
    (subst (λ n. MakesStep (geometry g.row.SETS g.row.WAYS) (still g c) (Evict n c.args.block) None (left g c)) c.index-i.ensures.value
    (subst (λ m. MakesStep (geometry g.row.SETS g.row.WAYS) (still g c) (Evict c.index-i.result c.args.block) None m) (sym (stays g c))
    (evicts_nothing g.row.SETS g.row.WAYS c.index-i.result c.args.block (still g c) (left g c) (seat g c) (seat_left g c) c.self.invariant (acts_none g c) c.in-None.ensures.row)))
