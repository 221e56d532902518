use Rattle.std.proofs.Common.{◌≡◌, ◌≤◌, arith, length, None, Some, refl, sym, ap, subst, subst₂}
use Rattle.std.specs.Prelude.{slice_set, option_to_list, IfNone}
use Rattle.std.specs.Option.{option_map}
use Rattle.words.specs.declared.entry.Step.TheVariants.{Core}
use Rattle.protocol.specs.Messages.{shown as shown_message}
use Rattle.machine.specs.Making.{MakesStep}
use Rattle.machine.specs.Mail.{SendsOn, mail_of}
use Rattle.machine.specs.States.{State, geometry, IsSound}
use Rattle.machine.proofs.Acting.{Acts, rests_still}
use Rattle.machine.proofs.Cores.{MakesOf, core_makes, core_rests, core_of_none}
use Rattle.machine.proofs.machine.Machine.any_core.Given.{Over}
use Rattle.machine.proofs.machine.Machine.any_core.Goals as goal

pub returns-then-i-len-clause-steps : goal.returns-then-i-len-clause-steps
returns-then-i-len-clause-steps g c =
    let v : State = c.args.self.now in
    let count : length c.self.inside.seats.items ≡ length v.seats = ap (λ (m : State). length m.seats) c.self.view_is in
    let past : length v.seats ≤ c.args.id = omega (arith, c.len.ensures, c.index-i.ensures.value, c.if-i-len.true, count) in
    core_of_none g.row.SETS g.row.WAYS c.args.id v (subst (IsSound g.row.SETS g.row.WAYS) c.self.view_is c.self.invariant) past

-- The core made a step

-- the machine before and after
abbrev before : (g : Over) (c : goal.After-note g) → State
before g c = record { program = c.self.inside.program; seats = c.self.inside.seats.items; directory = c.self.inside.directory; flights = c.self.inside.net.flights; sent = c.self.inside.net.next; stamps = c.self.inside.stamps }

abbrev after : (g : Over) (c : goal.After-note g) → State
after g c = record (before g c) { seats = slice_set (before g c).seats c.index-i.result c.core_step.new.self; flights = c.note.new.net.flights; sent = c.note.new.net.next; stamps = c.note.new.stamps }

makes : (g : Over) (c : goal.After-note g)
    → MakesStep (geometry g.row.SETS g.row.WAYS) (before g c) (Core c.index-i.result) c.in-Some.made.entry (after g c) × IsSound g.row.SETS g.row.WAYS (after g c)
makes g c =
    let acts : Acts c.index-i.result (before g c) (after g c) c.index_mut.result.now c.core_step.new.self = record {
      number = omega (arith, c.len.ensures, c.if-i-len.false);
      before = c.index_mut.ensures.value;
      after = refl;
      program = refl;
      directory = refl;
      stays = c.core_step.ensures.stays;
    } in
    let row : MakesOf g.row.SETS (before g c).program.segments (before g c).stamps c.index_mut.result.now c.core_step.new.self (Some c.in-Some.made) =
    subst (λ made. MakesOf g.row.SETS (before g c).program.segments (before g c).stamps c.index_mut.result.now c.core_step.new.self made) c.in-Some.is
    (subst (λ segments. MakesOf g.row.SETS segments (before g c).stamps c.index_mut.result.now c.core_step.new.self c.in_ok-core_step.field-0) c.text.ensures c.in_ok-core_step.ensures.row) in
    core_makes g.row.SETS g.row.WAYS c.index-i.result (before g c) (after g c) c.index_mut.result.now c.core_step.new.self c.self.invariant acts c.in-Some.made c.in_ok-core_step.ensures.victim c.core_step.ensures.ways row
    c.note.ensures.stamps
    (subst₂ (λ f n. SendsOn (mail_of f) n (option_to_list (option_map shown_message c.in-Some.made.message)) (mail_of (after g c).flights) (after g c).sent) c.reserve.ensures.same c.reserve.ensures.number c.note.ensures.sent) c.note.ensures.order

pub invariant_of-self-in-Some : goal.invariant_of-self-in-Some
invariant_of-self-in-Some g c = (makes g c).1

pub returns-in-Some-clause-steps : goal.returns-in-Some-clause-steps
returns-in-Some-clause-steps g c =
    subst (λ m. MakesStep (geometry g.row.SETS g.row.WAYS) m (Core c.args.id) c.in-Some.made.entry (after g c)) c.self.view_is
    (subst (λ n. MakesStep (geometry g.row.SETS g.row.WAYS) (before g c) (Core n) c.in-Some.made.entry (after g c)) c.index-i.ensures.value (makes g c).0)

-- Memory ran out, and the seat is what it was

pub invariant_of-self-in_err-core_step : goal.invariant_of-self-in_err-core_step
invariant_of-self-in_err-core_step g c =
    let v : State = record { program = c.self.inside.program; seats = c.self.inside.seats.items; directory = c.self.inside.directory; flights = c.self.inside.net.flights; sent = c.self.inside.net.next; stamps = c.self.inside.stamps } in
    let w : State = record v { seats = slice_set v.seats c.index-i.result c.core_step.new.self; flights = c.reserve.new.self.flights; sent = c.reserve.new.self.next } in
    let acts : Acts c.index-i.result v w c.index_mut.result.now c.core_step.new.self = record {
      number = omega (arith, c.len.ensures, c.if-i-len.false);
      before = c.index_mut.ensures.value;
      after = refl;
      program = refl;
      directory = refl;
      stays = c.core_step.ensures.stays;
    } in
    let rests : w ≡ v = rests_still c.index-i.result v w c.index_mut.result.now c.core_step.new.self acts c.in_err-core_step.ensures.err c.reserve.ensures.same c.reserve.ensures.number refl in
    subst (IsSound g.row.SETS g.row.WAYS) (sym rests) c.self.invariant

-- No step is enabled

abbrev still : (g : Over) (c : goal.In-None g) → State
still g c = record { program = c.self.inside.program; seats = c.self.inside.seats.items; directory = c.self.inside.directory; flights = c.self.inside.net.flights; sent = c.self.inside.net.next; stamps = c.self.inside.stamps }

abbrev left : (g : Over) (c : goal.In-None g) → State
left g c = record (still g c) { seats = slice_set (still g c).seats c.index-i.result c.core_step.new.self; flights = c.reserve.new.self.flights; sent = c.reserve.new.self.next }

acts_none : (g : Over) (c : goal.In-None g) → Acts c.index-i.result (still g c) (left g c) c.index_mut.result.now c.core_step.new.self
acts_none g c = record {
  number = omega (arith, c.len.ensures, c.if-i-len.false);
  before = c.index_mut.ensures.value;
  after = refl;
  program = refl;
  directory = refl;
  stays = c.core_step.ensures.stays;
}

-- so the machine stays as it is
stays : (g : Over) (c : goal.In-None g) → left g c ≡ still g c
stays g c =
    let same : c.core_step.new.self ≡ c.index_mut.result.now =
    subst (λ made. IfNone made (c.core_step.new.self ≡ c.index_mut.result.now)) c.in-None.is c.in_ok-core_step.ensures.none in
    rests_still c.index-i.result (still g c) (left g c) c.index_mut.result.now c.core_step.new.self (acts_none g c) same c.reserve.ensures.same c.reserve.ensures.number refl

pub invariant_of-self-in-None : goal.invariant_of-self-in-None
invariant_of-self-in-None g c = subst (IsSound g.row.SETS g.row.WAYS) (sym (stays g c)) c.self.invariant

pub returns-in-None-clause-steps : goal.returns-in-None-clause-steps
returns-in-None-clause-steps g c =
    let row : MakesOf g.row.SETS (still g c).program.segments (still g c).stamps c.index_mut.result.now c.core_step.new.self None =
    subst (λ made. MakesOf g.row.SETS (still g c).program.segments (still g c).stamps c.index_mut.result.now c.core_step.new.self made) c.in-None.is
    (subst (λ segments. MakesOf g.row.SETS segments (still g c).stamps c.index_mut.result.now c.core_step.new.self c.in_ok-core_step.field-0) c.text.ensures c.in_ok-core_step.ensures.row) in
    subst (λ m. MakesStep (geometry g.row.SETS g.row.WAYS) m (Core c.args.id) None (left g c)) c.self.view_is
    (subst (λ n. MakesStep (geometry g.row.SETS g.row.WAYS) (still g c) (Core n) None (left g c)) c.index-i.ensures.value
    (subst (λ m. MakesStep (geometry g.row.SETS g.row.WAYS) (still g c) (Core c.index-i.result) None m) (sym (stays g c))
    (core_rests g.row.SETS g.row.WAYS c.index-i.result (still g c) (left g c) c.index_mut.result.now c.core_step.new.self c.self.invariant (acts_none g c) c.in_ok-core_step.ensures.victim row)))
