use Rattle.std.proofs.Common.{None, sym, refl, subst}
use Rattle.words.specs.declared.entry.Step.TheVariants.{Deliver}
use Rattle.words.specs.declared.message.Message.TheVariants as coded
use Rattle.protocol.specs.Messages.{shown as shown_message}
use Rattle.protocol.specs.Directory.{done_of}
use Rattle.directory.specs.Blocks.{entry_at, memory_at}
use Rattle.flat.specs.Bytes.{put_at}
use Rattle.machine.specs.Mail.{SendsOn, mail_of}
use Rattle.machine.specs.Making.{MakesStep}
use Rattle.machine.specs.States.{State, geometry, IsSound}
use Rattle.machine.proofs.Peeked.{peeked}
use Rattle.machine.proofs.Served.{block_inside, sender_inside, serves, done_silent}
use Rattle.machine.proofs.machine.Machine.done_arrives.Given.{Over}
use Rattle.machine.proofs.machine.Machine.done_arrives.Goals as goal

pub done-requires-clause-block : goal.done-requires-clause-block
done-requires-clause-block g c =
    let a = c.in-Some-Done in
    block_inside g.row.SETS g.row.WAYS c.args.number _ (shown_message (coded.Done a.from a.block a.ok a.content)) c.self.invariant (peeked c.self.inside.net.flights c.args.number _ _ a.ensures a.field-0-is)

pub done-requires-clause-hart : goal.done-requires-clause-hart
done-requires-clause-hart g c =
    let a = c.in-Some-Done in
    sender_inside g.row.SETS g.row.WAYS c.args.number _ (shown_message (coded.Done a.from a.block a.ok a.content)) c.self.invariant (peeked c.self.inside.net.flights c.args.number _ _ a.ensures a.field-0-is)

-- the machine before and after
abbrev before : (g : Over) (c : goal.After-take g) → State
before g c = record { program = c.self.inside.program; seats = c.self.inside.seats.items; directory = c.self.inside.directory; flights = c.self.inside.net.flights; sent = c.self.inside.net.next; stamps = c.self.inside.stamps }

abbrev after : (g : Over) (c : goal.After-take g) → State
after g c = record (before g c) { directory = c.done.new.self; flights = c.take.new.net.flights; sent = c.take.new.net.next }

arrives : (g : Over) (c : goal.After-take g)
    → MakesStep (geometry g.row.SETS g.row.WAYS) (before g c) (Deliver c.args.number) None (after g c) × IsSound g.row.SETS g.row.WAYS (after g c)
arrives g c =
    let a = c.in-Some-Done in
    let d = (before g c).directory in
    serves g.row.SETS g.row.WAYS c.args.number (before g c) (after g c) (coded.Done a.from a.block a.ok a.content) (done_of (entry_at d a.block).busy a.from a.ok a.content (entry_at d a.block) (memory_at d a.block)) c.self.invariant
    (peeked c.self.inside.net.flights c.args.number _ _ a.ensures a.field-0-is) refl
    (record { program = refl; seats = refl; stamps = refl; row = refl; block = c.done.ensures.set; used = c.done.ensures.kept; order = c.take.ensures.order; sends = subst (λ ms. SendsOn (put_at c.args.number None (mail_of (before g c).flights)) (before g c).sent ms (mail_of (after g c).flights) (after g c).sent) (sym (done_silent (entry_at d a.block).busy a.from a.ok a.content (entry_at d a.block) (memory_at d a.block))) (c.take.ensures.mail, c.take.ensures.number) })

pub invariant_of-self : goal.invariant_of-self
invariant_of-self g c = (arrives g c).1

pub returns : goal.returns
returns g c = subst (λ m. MakesStep (geometry g.row.SETS g.row.WAYS) m (Deliver c.args.number) None (after g c)) c.self.view_is (arrives g c).0
