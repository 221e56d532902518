use Rattle.std.proofs.Common.{◌≡◌, ◌≤◌, arith, length, Some, None, get_or, refl, sym, ap, subst, ◌∙◌}
use Rattle.std.specs.Prelude.{slice_set, option_to_list}
use Rattle.words.specs.declared.entry.Step.TheVariants.{Deliver}
use Rattle.protocol.specs.Messages.{Message as Told, Ack}
use Rattle.hart.specs.Rows.{done_of}
use Rattle.flat.specs.Bytes.{put_at}
use Rattle.machine.specs.Making.{MakesStep}
use Rattle.machine.specs.Mail.{SendsOn, in_flight, mail_of}
use Rattle.machine.specs.States.{State, Seat, geometry, IsSound}
use Rattle.machine.proofs.Acting.{Acts}
use Rattle.machine.proofs.Peeked.{peeked}
use Rattle.machine.proofs.Deliveries.{arrives_nowhere, arrives_at_hart}
use Rattle.machine.proofs.machine.Machine.ack_arrives.Given.{Over}
use Rattle.machine.proofs.machine.Machine.ack_arrives.Goals as goal

pub returns-then-i-len : goal.returns-then-i-len
returns-then-i-len g c =
    let a = c.in-Some-Ack in
    let v : State = c.args.self.now in
    let m : Told = Ack a.from a.to a.block a.content in
    let here : in_flight v.flights c.args.number ≡ Some m = ap (λ (w : State). in_flight w.flights c.args.number) (sym c.self.view_is) ∙ peeked c.self.inside.net.flights c.args.number _ _ a.ensures a.field-0-is in
    let count : length c.self.inside.seats.items ≡ length v.seats = ap (λ (m : State). length m.seats) c.self.view_is in
    let past : length v.seats ≤ a.to = omega (arith, c.len.ensures, c.index-i.ensures.value, c.if-i-len.true, count) in
    arrives_nowhere g.row.SETS g.row.WAYS c.args.number a.to v m (subst (IsSound g.row.SETS g.row.WAYS) c.self.view_is c.self.invariant) here refl past

-- the machine before and after, and the hart's seat
abbrev before : (g : Over) (c : goal.After-answer_done g) → State
before g c = record { program = c.self.inside.program; seats = c.self.inside.seats.items; directory = c.self.inside.directory; flights = c.self.inside.net.flights; sent = c.self.inside.net.next; stamps = c.self.inside.stamps }

abbrev old_seat : (g : Over) (c : goal.After-answer_done g) → Seat
old_seat g c = record { hart = c.behind-self.inside.hart; output = c.behind-self.inside.output.items }

abbrev new_seat : (g : Over) (c : goal.After-answer_done g) → Seat
new_seat g c = record { hart = c.on_ack-settled.new.self; output = c.behind-self.inside.output.items }

abbrev after : (g : Over) (c : goal.After-answer_done g) → State
after g c = record (before g c) { seats = slice_set (before g c).seats c.index-i.result (new_seat g c); flights = c.answer_done.new.net.flights; sent = c.answer_done.new.net.next }

-- it arrives
arrives : (g : Over) (c : goal.After-answer_done g)
    → MakesStep (geometry g.row.SETS g.row.WAYS) (before g c) (Deliver c.args.number) None (after g c) × IsSound g.row.SETS g.row.WAYS (after g c)
arrives g c =
    let a = c.in-Some-Ack in
    let acts : Acts c.index-i.result (before g c) (after g c) (old_seat g c) (new_seat g c) = record {
      number = omega (arith, c.len.ensures, c.if-i-len.false);
      before = subst (λ s. s ≡ get_or (before g c).seats c.index-i.result s) (sym c.behind-self.view_is) c.index_mut.ensures.value;
      after = refl;
      program = refl;
      directory = refl;
      stays = c.on_ack-settled.ensures.stays;
    } in
    let m : Told = Ack a.from a.to a.block a.content in
    let is : c.index-i.result ≡ a.to = c.index-i.ensures.value in
    arrives_at_hart g.row.SETS g.row.WAYS c.args.number c.index-i.result (before g c) (after g c) (old_seat g c) (new_seat g c) m (λ n. done_of n c.on_ack-settled.result) (λ n. None) c.self.invariant acts refl refl
    (peeked c.self.inside.net.flights c.args.number _ _ a.ensures a.field-0-is) (ap (λ n. Some n) (sym is)) c.on_ack-settled.ensures.ways c.on_ack-settled.ensures.row
    (subst (λ n. SendsOn (put_at c.args.number None (mail_of (before g c).flights)) (before g c).sent (option_to_list (done_of n c.on_ack-settled.result)) (mail_of (after g c).flights) (after g c).sent) (sym is) c.answer_done.ensures.sent) c.answer_done.ensures.order

pub invariant_of-self : goal.invariant_of-self
invariant_of-self g c = (arrives g c).1

pub returns : goal.returns
returns g c = subst (λ m. MakesStep (geometry g.row.SETS g.row.WAYS) m (Deliver c.args.number) None (after g c)) c.self.view_is (arrives g c).0
