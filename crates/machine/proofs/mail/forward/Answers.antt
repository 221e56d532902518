use Rattle.std.proofs.Common.{◌≡◌, ◌<◌, ◌++◌, ◌∷◌, [], arith, refl, subst, true}
use Rattle.words.specs.Harts.{names, IsNext}
use Rattle.protocol.specs.Messages.{Forward}
use Rattle.protocol.specs.Directory.{forwards}
use Rattle.directory.proofs.Forwards.{forwards-more, forwards-next, forwards-end, asked-named, asked-below}
use Rattle.machine.specs.Mail.{SendsOn, mail_of}
use Rattle.machine.proofs.Sending.{sends_on}
use Rattle.machine.proofs.mail.forward.Goals as goal

pub send_one-requires : goal.send_one-requires
send_one-requires c =
    let next : IsNext c.below-asked.result c.loop-to.from c.in-Some.to = c.in-Some.ensures.some in
    let below : c.in-Some.to < c.args.harts = asked-below (names c.args.expect.now) c.args.harts c.below-asked.result c.below-asked.ensures c.in-Some.to next.named in
    omega (arith, c.loop-to.invariant.0, next.from)

pub loop-to-preserved : goal.loop-to-preserved
loop-to-preserved c =
    let q = c.args.request.now in
    let expect = names c.args.expect.now in
    let asked = c.below-asked.result in
    let to = c.in-Some.to in
    let first = c.args.net.now in
    let old = c.loop-to.net in
    let new = c.send_one.new.net in
    let next : IsNext asked c.loop-to.from to = c.in-Some.ensures.some in
    let named : expect to ≡ true = asked-named expect c.args.harts asked c.below-asked.ensures to next.named in
    let below : to < c.args.harts = asked-below expect c.args.harts asked c.below-asked.ensures to next.named in
    let skipped : forwards to expect q.block q.kind q.requester q.stamp ≡ forwards c.loop-to.from expect q.block q.kind q.requester q.stamp = forwards-next expect q.block q.kind q.requester q.stamp c.args.harts asked c.below-asked.ensures c.loop-to.from to next in
    let told = forwards to expect q.block q.kind q.requester q.stamp in
    let before : SendsOn (mail_of first.flights) first.next told (mail_of old.flights) old.next = rw skipped c.loop-to.invariant.1 in
    let more : SendsOn (mail_of first.flights) first.next (told ++ Forward to q.block q.kind q.requester q.stamp ∷ []) (mail_of new.flights) new.next =
    sends_on told (Forward to q.block q.kind q.requester q.stamp ∷ []) (mail_of first.flights) (mail_of old.flights) (mail_of new.flights) first.next old.next new.next before c.send_one.ensures.sent in
    rw c.index-from.ensures.value (
      omega (arith, c.send_one.ensures.room, c.loop-to.invariant.0, next.from),
      subst (λ ms. SendsOn (mail_of first.flights) first.next ms (mail_of new.flights) new.next) (forwards-more expect q.block q.kind q.requester q.stamp to [] told named refl) more,
      omega arith,
    )

pub returns-clause-sent : goal.returns-clause-sent
returns-clause-sent c =
    let q = c.args.request.now in
    let expect = names c.args.expect.now in
    rw (forwards-end expect q.block q.kind q.requester q.stamp c.args.harts c.below-asked.result c.below-asked.ensures c.loop-to.from c.loop-to.invariant.2 c.in_default.ensures.none) c.loop-to.invariant.1
