use Rattle.std.proofs.Common.{◌≡◌, ◌≢◌, ◌<◌, ◌∷◌, [], ◌++◌, ◌∙◌, arith, true, inl, inr}
use Rattle.std.proofs.lemmas.Bool.{cases_lt}
use Rattle.words.specs.Harts.{names, IsNext}
use Rattle.protocol.specs.Messages.{Forward}
use Rattle.protocol.specs.Directory.{forwards}
use Rattle.directory.specs.Sends.{messages_of}
use Rattle.directory.proofs.Forwards.{messages_of-push, forwards-more, forwards-next, forwards-end, asked-named, asked-below, apart_from}
use Rattle.directory.proofs.rules.forward.Goals as goal

pub loop-to-preserved : goal.loop-to-preserved
loop-to-preserved c =
    let q = c.args.request.now in
    let expect = names c.args.expect.now in
    let asked = c.below-asked.result in
    let to = c.in-Some.to in
    let start = messages_of c.args.sends.now in
    let next : IsNext asked c.loop-to.from to = c.in-Some.ensures.some in
    let named : expect to ≡ true = asked-named expect c.args.harts asked c.below-asked.ensures to next.named in
    let below : to < c.args.harts = asked-below expect c.args.harts asked c.below-asked.ensures to next.named in
    let skipped : forwards to expect q.block q.kind q.requester q.stamp ≡ forwards c.loop-to.from expect q.block q.kind q.requester q.stamp = forwards-next expect q.block q.kind q.requester q.stamp c.args.harts asked c.below-asked.ensures c.loop-to.from to next in
    let before : messages_of c.loop-to.sends ≡ start ++ forwards to expect q.block q.kind q.requester q.stamp = rw skipped c.loop-to.invariant.0 in
    let pushed : messages_of c.push.new.list ≡ messages_of c.loop-to.sends ++ Forward to q.block q.kind q.requester q.stamp ∷ [] = messages_of-push c.loop-to.sends c.push.new.list c.forward_to.result _ c.forward_to.ensures c.push.ensures.items in
    let apart : q.requester ≢ to = apart_from expect _ _ c.requires.others named in
    rw c.index-from.ensures.value (
      pushed ∙ forwards-more expect q.block q.kind q.requester q.stamp to start _ named before,
      omega (arith, c.push.ensures.len, c.loop-to.invariant.1, next.from),
      λ above. elim (cases_lt q.requester c.loop-to.from) [
        | inl before ↦ omega (arith, c.push.ensures.len, c.loop-to.invariant.2 before, next.from)
        | inr since ↦ omega (arith, c.push.ensures.len, c.loop-to.invariant.1)
      ],
      omega arith,
    )

pub returns : goal.returns
returns c =
    let q = c.args.request.now in
    let expect = names c.args.expect.now in
    rw (forwards-end expect q.block q.kind q.requester q.stamp c.args.harts c.below-asked.result c.below-asked.ensures c.loop-to.from c.loop-to.invariant.3 c.in_default.ensures.none) c.loop-to.invariant.0
