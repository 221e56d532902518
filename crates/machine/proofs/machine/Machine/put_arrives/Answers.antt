use Rattle.std.proofs.Common.{◌≡◌, None, sym, refl, subst}
use Rattle.words.specs.declared.entry.Step.TheVariants.{Deliver}
use Rattle.words.specs.declared.message.Message.{Message}
use Rattle.words.specs.declared.message.Message.TheVariants as coded
use Rattle.protocol.specs.Messages.{shown as shown_message}
use Rattle.directory.specs.Blocks.{Answers, row_of}
use Rattle.directory.specs.declared.received.Answer.TheVariants.{Acknowledged}
use Rattle.machine.specs.Making.{MakesStep}
use Rattle.machine.specs.States.{State, geometry, IsSound}
use Rattle.machine.proofs.Peeked.{peeked}
use Rattle.machine.proofs.Served.{block_inside, sender_inside, held, follows}
use Rattle.machine.proofs.machine.Machine.put_arrives.Given.{Over}
use Rattle.machine.proofs.machine.Machine.put_arrives.Goals as goal

pub put-requires-clause-block : goal.put-requires-clause-block
put-requires-clause-block g c =
    let a = c.in-Some-Put in
    block_inside g.row.SETS g.row.WAYS c.args.number _ (shown_message (coded.Put a.from a.block a.content a.marked)) c.self.invariant (peeked c.self.inside.net.flights c.args.number _ _ a.ensures a.field-0-is)

pub put-requires-clause-hart : goal.put-requires-clause-hart
put-requires-clause-hart g c =
    let a = c.in-Some-Put in
    sender_inside g.row.SETS g.row.WAYS c.args.number _ (shown_message (coded.Put a.from a.block a.content a.marked)) c.self.invariant (peeked c.self.inside.net.flights c.args.number _ _ a.ensures a.field-0-is)

-- the machine before, and after a Put that is acknowledged
abbrev before : (g : Over) (c : goal.After-answer g) → State
before g c = record { program = c.self.inside.program; seats = c.self.inside.seats.items; directory = c.self.inside.directory; flights = c.self.inside.net.flights; sent = c.self.inside.net.next; stamps = c.self.inside.stamps }

abbrev after : (g : Over) (c : goal.After-answer g) → State
after g c = record (before g c) { directory = c.put.new.self; flights = c.answer.new.net.flights; sent = c.answer.new.net.next }

serves : (g : Over) (c : goal.After-answer g)
    → MakesStep (geometry g.row.SETS g.row.WAYS) (before g c) (Deliver c.args.number) None (after g c) × IsSound g.row.SETS g.row.WAYS (after g c)
serves g c =
    let a = c.in-Some-Put in
    follows g.row.SETS g.row.WAYS c.args.number (before g c) (after g c) (coded.Put a.from a.block a.content a.marked) (Acknowledged a.from a.block) c.self.invariant
    (peeked c.self.inside.net.flights c.args.number _ _ a.ensures a.field-0-is) refl (c.put.ensures.served c.if-put.true) c.put.ensures.kept refl refl refl c.answer.ensures.sent c.answer.ensures.order

pub invariant_of-self : goal.invariant_of-self
invariant_of-self g c = (serves g c).1

pub returns-then-put : goal.returns-then-put
returns-then-put g c = subst (λ m. MakesStep (geometry g.row.SETS g.row.WAYS) m (Deliver c.args.number) None (after g c)) c.self.view_is (serves g c).0

-- or of one that is held
pub returns-else-put : goal.returns-else-put
returns-else-put g c =
    let a = c.in-Some-Put in
    let m : Message = coded.Put a.from a.block a.content a.marked in
    let v : State = record { program = c.self.inside.program; seats = c.self.inside.seats.items; directory = c.self.inside.directory; flights = c.self.inside.net.flights; sent = c.self.inside.net.next; stamps = c.self.inside.stamps } in
    let w : State = record v { directory = c.put.new.self } in
    let waits : Answers None (row_of v.directory (shown_message m)) a.block v.directory w.directory = c.put.ensures.held c.if-put.false in
    let same : w ≡ v = λ k. record v { directory = waits.1 k } in
    subst (λ u. MakesStep (geometry g.row.SETS g.row.WAYS) u (Deliver c.args.number) None w) c.self.view_is
    (subst (λ u. MakesStep (geometry g.row.SETS g.row.WAYS) v (Deliver c.args.number) None u) (sym same)
    (held g.row.SETS g.row.WAYS c.args.number v m w.directory c.self.invariant (peeked c.self.inside.net.flights c.args.number _ _ a.ensures a.field-0-is) refl waits))
