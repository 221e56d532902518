use Rattle.std.proofs.Common.{◌≡◌, ◌<◌, ◌∷◌, [], List, None, length, sym, ap, refl, subst, subst₂, ◌∙◌}
use Rattle.std.specs.List.{slice_index_or}
use Rattle.std.specs.Option.{option_map}
use Rattle.words.specs.declared.entry.Step.TheVariants.{Deliver}
use Rattle.words.specs.declared.message.Message.{Message}
use Rattle.words.specs.declared.message.Message.TheVariants as coded
use Rattle.words.specs.Harts.{names}
use Rattle.flat.specs.Bytes.{put_at}
use Rattle.protocol.specs.Messages.{Block, Grant, shown as shown_message}
use Rattle.protocol.specs.Directory.{forwards}
use Rattle.directory.specs.declared.rules.Request.{Request}
use Rattle.directory.specs.Blocks.{Answers, answer_to, row_of}
use Rattle.directory.specs.Sends.{messages_in}
use Rattle.machine.specs.Mail.{SendsOn, mail_of}
use Rattle.machine.specs.Making.{MakesStep}
use Rattle.machine.specs.States.{State, geometry, IsSound}
use Rattle.machine.proofs.Peeked.{peeked}
use Rattle.machine.proofs.Served.{block_inside, sender_inside, held, follows}
use Rattle.machine.proofs.machine.Machine.get_arrives.Given.{Over}
use Rattle.machine.proofs.machine.Machine.get_arrives.Goals as goal

pub get-requires-clause-block : goal.get-requires-clause-block
get-requires-clause-block g c =
    let a = c.in-Some-Get in
    block_inside g.row.SETS g.row.WAYS c.args.number _ (shown_message (coded.Get a.from a.block a.kind a.stamp)) c.self.invariant (peeked c.self.inside.net.flights c.args.number _ _ a.ensures a.field-0-is)

pub get-requires-clause-hart : goal.get-requires-clause-hart
get-requires-clause-hart g c =
    let a = c.in-Some-Get in
    sender_inside g.row.SETS g.row.WAYS c.args.number _ (shown_message (coded.Get a.from a.block a.kind a.stamp)) c.self.invariant (peeked c.self.inside.net.flights c.args.number _ _ a.ensures a.field-0-is)

pub memory-content-requires : goal.memory-content-requires
memory-content-requires g c =
    let a = c.in-Some-Get in
    subst (λ (words : List Block). a.block < length words) (sym c.get.ensures.memory)
    (block_inside g.row.SETS g.row.WAYS c.args.number _ (shown_message (coded.Get a.from a.block a.kind a.stamp)) c.self.invariant (peeked c.self.inside.net.flights c.args.number _ _ a.ensures a.field-0-is))

-- the machine before, and after a request that is granted
abbrev before : (g : Over) (c : goal.After-answer_get g) → State
before g c = record { program = c.self.inside.program; seats = c.self.inside.seats.items; directory = c.self.inside.directory; flights = c.self.inside.net.flights; sent = c.self.inside.net.next; stamps = c.self.inside.stamps }

abbrev after : (g : Over) (c : goal.After-answer_get g) → State
after g c = record (before g c) { directory = c.get.new.self; flights = c.answer_get.new.net.flights; sent = c.answer_get.new.net.next }

serves : (g : Over) (c : goal.After-answer_get g)
    → MakesStep (geometry g.row.SETS g.row.WAYS) (before g c) (Deliver c.args.number) None (after g c) × IsSound g.row.SETS g.row.WAYS (after g c)
serves g c =
    let a = c.in-Some-Get in
    let m : Message = coded.Get a.from a.block a.kind a.stamp in
    let q : Request = record { requester = a.from; block = a.block; kind = a.kind; stamp = a.stamp } in
    let d = (before g c).directory in
    let given = c.in-Some.given in
    follows g.row.SETS g.row.WAYS c.args.number (before g c) (after g c) m (answer_to d q given) c.self.invariant
    (peeked c.self.inside.net.flights c.args.number _ _ a.ensures a.field-0-is) refl
    (subst (λ r. Answers (option_map (answer_to d q) r) (row_of d (shown_message m)) q.block d (after g c).directory) c.in-Some.is c.in_ok-given.ensures.ok)
    c.get.ensures.kept refl refl refl
    (subst₂ (λ f n. SendsOn (put_at c.args.number None (mail_of f)) n (messages_in d.harts (answer_to d q given)) (mail_of (after g c).flights) (after g c).sent) c.in_ok-reserve.ensures.same c.in_ok-reserve.ensures.number
    (subst₂ (λ content n. SendsOn (put_at c.args.number None (mail_of c.reserve.new.self.flights)) c.reserve.new.self.next
    (Grant q.requester q.block (record { give = given.give; content = content; expect = names given.expect }) ∷ forwards n (names given.expect) q.block q.kind q.requester q.stamp) (mail_of (after g c).flights) (after g c).sent)
    (c.memory-content.ensures ∙ ap (λ (words : List Block). slice_index_or words q.block []) c.get.ensures.memory) (c.harts-harts.ensures.value ∙ c.get.ensures.harts) c.answer_get.ensures.sent))
    c.answer_get.ensures.order

pub invariant_of-self-in-Some : goal.invariant_of-self-in-Some
invariant_of-self-in-Some g c = (serves g c).1

pub returns-in-Some-clause-steps : goal.returns-in-Some-clause-steps
returns-in-Some-clause-steps g c = subst (λ m. MakesStep (geometry g.row.SETS g.row.WAYS) m (Deliver c.args.number) None (after g c)) c.self.view_is (serves g c).0

-- or of one that is held
pub returns-in_default-2-clause-steps : goal.returns-in_default-2-clause-steps
returns-in_default-2-clause-steps g c =
    let a = c.in-Some-Get in
    let m : Message = coded.Get a.from a.block a.kind a.stamp in
    let q : Request = record { requester = a.from; block = a.block; kind = a.kind; stamp = a.stamp } in
    let v : State = record { program = c.self.inside.program; seats = c.self.inside.seats.items; directory = c.self.inside.directory; flights = c.self.inside.net.flights; sent = c.self.inside.net.next; stamps = c.self.inside.stamps } in
    let w : State = record v { directory = c.get.new.self; flights = c.reserve.new.self.flights; sent = c.reserve.new.self.next } in
    let waits : Answers None (row_of v.directory (shown_message m)) q.block v.directory w.directory =
    subst (λ r. Answers (option_map (answer_to v.directory q) r) (row_of v.directory (shown_message m)) q.block v.directory w.directory) c.in_default-2.is c.in_ok-given.ensures.ok in
    let same : w ≡ v = λ k. record v { directory = waits.1 k; flights = c.in_ok-reserve.ensures.same k; sent = c.in_ok-reserve.ensures.number k } in
    subst (λ u. MakesStep (geometry g.row.SETS g.row.WAYS) u (Deliver c.args.number) None w) c.self.view_is
    (subst (λ u. MakesStep (geometry g.row.SETS g.row.WAYS) v (Deliver c.args.number) None u) (sym same)
    (held g.row.SETS g.row.WAYS c.args.number v m w.directory c.self.invariant (peeked c.self.inside.net.flights c.args.number _ _ a.ensures a.field-0-is) refl waits))
