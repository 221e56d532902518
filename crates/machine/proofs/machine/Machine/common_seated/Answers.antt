use Rattle.std.proofs.Common.{◌≡◌, ◌∙◌, ◌<◌, length, Some, refl, sym, ap, subst, subst₂}
use Rattle.std.specs.Prelude.{slice_set, option_to_list, IfSome, IfNone}
use Rattle.std.specs.Option.{option_map}
use Rattle.words.specs.declared.entry.Step.TheVariants.{Core}
use Rattle.protocol.specs.Hart.{stamp_of}
use Rattle.protocol.specs.Core.{core_row}
use Rattle.hart.specs.Shown.{shown_tx, shown_hart}
use Rattle.hart.specs.Rows.{victim_of, advanced, setting_of as hart_setting}
use Rattle.machine.specs.Making.{MakesStep}
use Rattle.machine.specs.Mail.{SendsOn, mail_of}
use Rattle.machine.specs.Rows.{asking}
use Rattle.machine.specs.States.{Seat, State, geometry, IsSound}
use Rattle.machine.proofs.Acting.{Acts, rests_still}
use Rattle.machine.proofs.Cores.{common_makes}
use Rattle.machine.proofs.machine.Machine.common_seated.Given.{Over}
use Rattle.machine.proofs.machine.Machine.common_seated.Goals as goal

-- The core made a step

-- the machine before and after
abbrev before : (g : Over) (c : goal.After-take_stamp g) → State
before g c = record { program = c.self.inside.program; seats = c.self.inside.seats.items; directory = c.self.inside.directory; flights = c.self.inside.net.flights; sent = c.self.inside.net.next; stamps = c.self.inside.stamps }

abbrev after : (g : Over) (c : goal.After-take_stamp g) → State
after g c = record (before g c) { seats = slice_set (before g c).seats c.index-i.result c.common_step.new.self; flights = c.ask.new.net.flights; sent = c.ask.new.net.next; stamps = c.take_stamp.new.stamps }

makes : (g : Over) (c : goal.After-take_stamp g)
    → MakesStep (geometry g.row.SETS g.row.WAYS) (before g c) (Core c.index-i.result) c.in-Some.made.entry (after g c) × IsSound g.row.SETS g.row.WAYS (after g c)
makes g c =
    let S = g.row.SETS in
    let old = c.index_mut-seat.result.now in
    let new = c.common_step.new.self in
    let made = c.in-Some.made in
    let acts : Acts c.index-i.result (before g c) (after g c) old new = record {
      number = subst (λ (m : State). c.index-i.result < length m.seats) (sym c.self.view_is) (subst (λ n. n < length c.args.self.now.seats) (sym c.index-i.ensures.value) c.requires);
      before = c.index_mut-seat.ensures.value;
      after = refl;
      program = refl;
      directory = refl;
      stays = c.common_step.ensures.stays;
    } in
    let row = subst (λ o. IfSome o (λ m. core_row (hart_setting (before g c).program.segments old.hart) old.hart.index (before g c).stamps (victim_of S old.hart.cache) (shown_hart S old.output old.hart) ≡ Some (advanced S new.output new.hart m))) c.in-Some.is
    (subst (λ segments. IfSome c.common_step.result (λ m. core_row (hart_setting segments old.hart) old.hart.index (before g c).stamps (victim_of S old.hart.cache) (shown_hart S old.output old.hart) ≡ Some (advanced S new.output new.hart m))) c.text.ensures c.common_step.ensures.row) in
    let stamp = ap (λ (s : Seat). stamp_of (shown_tx s.hart.tx)) c.seat.view_is in
    common_makes S g.row.WAYS c.index-i.result (before g c) (after g c) old new c.self.invariant acts made c.common_step.ensures.victim c.common_step.ensures.ways row c.take_stamp.ensures
    (subst₂ (λ f n. SendsOn (mail_of f) n (option_to_list (option_map (asking c.index-i.result (stamp_of (shown_tx new.hart.tx))) made.asked)) (mail_of (after g c).flights) (after g c).sent) c.reserve.ensures.same c.reserve.ensures.number
    (subst₂ (λ i s. SendsOn (mail_of c.reserve.new.self.flights) c.reserve.new.self.next (option_to_list (option_map (asking i s) made.asked)) (mail_of (after g c).flights) (after g c).sent) (sym c.index-i.ensures.value) stamp c.ask.ensures.sent))
    c.ask.ensures.order

pub invariant_of-self-2 : goal.invariant_of-self-2
invariant_of-self-2 g c = (makes g c).1

pub returns-clause-steps : goal.returns-clause-steps
returns-clause-steps g c =
    subst (λ m. MakesStep (geometry g.row.SETS g.row.WAYS) m (Core c.args.id) c.in-Some.made.entry (after g c)) c.self.view_is
    (subst (λ n. MakesStep (geometry g.row.SETS g.row.WAYS) (before g c) (Core n) c.in-Some.made.entry (after g c)) c.index-i.ensures.value (makes g c).0)

-- No step is enabled

abbrev still : (g : Over) (c : goal.After-self-1 g) → State
still g c = record { program = c.self.inside.program; seats = c.self.inside.seats.items; directory = c.self.inside.directory; flights = c.self.inside.net.flights; sent = c.self.inside.net.next; stamps = c.self.inside.stamps }

abbrev left : (g : Over) (c : goal.After-self-1 g) → State
left g c = record (still g c) { seats = slice_set (still g c).seats c.index-i.result c.common_step.new.self; flights = c.reserve.new.self.flights; sent = c.reserve.new.self.next }

-- so the machine stays as it is
stays : (g : Over) (c : goal.After-self-1 g) → left g c ≡ still g c
stays g c =
    let acts : Acts c.index-i.result (still g c) (left g c) c.index_mut-seat.result.now c.common_step.new.self = record {
      number = subst (λ (m : State). c.index-i.result < length m.seats) (sym c.self.view_is) (subst (λ n. n < length c.args.self.now.seats) (sym c.index-i.ensures.value) c.requires);
      before = c.index_mut-seat.ensures.value;
      after = refl;
      program = refl;
      directory = refl;
      stays = c.common_step.ensures.stays;
    } in
    let same : c.common_step.new.self ≡ c.index_mut-seat.result.now = subst (λ made. IfNone made (c.common_step.new.self ≡ c.index_mut-seat.result.now)) c.in_default.is c.common_step.ensures.none in
    rests_still c.index-i.result (still g c) (left g c) c.index_mut-seat.result.now c.common_step.new.self acts same c.reserve.ensures.same c.reserve.ensures.number refl

pub invariant_of-self-in_default : goal.invariant_of-self-in_default
invariant_of-self-in_default g c = subst (IsSound g.row.SETS g.row.WAYS) (sym (stays g c)) c.self.invariant

pub returns-in_default-clause-none : goal.returns-in_default-clause-none
returns-in_default-clause-none g c = stays g c ∙ c.self.view_is
