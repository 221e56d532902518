use Rattle.std.proofs.Common.{◌≡◌, ◌≢◌, ◌+◌, ◌<◌, ◌++◌, ◌∷◌, ◌∙◌, ◌&&◌, [], length, nat_lt, arith, refl, sym, ap, subst}
use Rattle.std.proofs.lemmas.Fn.{FoldsTo-push}
use Rattle.std.proofs.lemmas.List.{length-append, map-append}
use Rattle.words.specs.Harts.{names, IsNext}
use Rattle.protocol.specs.Directory.{forwards}
use Rattle.directory.proofs.Forwards.{forwards-more, forwards-next, forwards-end, asked-named, asked-below, apart_from}
use Rattle.hart.specs.Rows.{refusal_of}
use Rattle.machine.specs.Serving.{forward_of, forwards_to}
use Rattle.machine.proofs.Asked.{asked_none, asked_more, asked_all, refused_more}
use Rattle.machine.proofs.Requests.{told_more}
use Rattle.machine.proofs.serving.ask.Goals as goal

-- nobody is asked yet
pub loop-to-init : goal.loop-to-init
loop-to-init g c = (
  c.grant-settled.auto.seats,
  omega arith,
  omega arith,
  omega arith,
  ([], refl, refl, refl, (λ i. asked_none c.below-asked.result i), (c.grant-settled.result, c.grant-settled.new.seats, c.grant-settled.ensures, (refl, refl)), refl),
)

-- one more hart answers
pub loop-to-preserved : goal.loop-to-preserved
loop-to-preserved g c =
    let q = c.args.request.now in
    let n = c.args.harts in
    let expect = names c.args.granted.now.expect in
    let asked = c.below-asked.result in
    let to = c.in-Some.to in
    let so_far = c.loop-to.invariant in
    let asks = so_far.4 in
    let xs = asks.0 in
    let reply = c.forward-answer.result in
    let next : IsNext asked c.loop-to.from to = c.in-Some.ensures.some in
    let named = asked-named expect n asked c.below-asked.ensures to next.named in
    let below : to < n = asked-below expect n asked c.below-asked.ensures to next.named in
    let place : c.index-from.result ≡ to = c.index-from.ensures.value in
    let skipped : forwards to expect q.block q.kind q.requester q.stamp ≡ forwards_to q xs = forwards-next expect q.block q.kind q.requester q.stamp n asked c.below-asked.ensures c.loop-to.from to next ∙ asks.1 in
    let more = forwards-more expect q.block q.kind q.requester q.stamp to [] (forwards_to q xs) named (sym skipped) in
    let all : forwards (c.index-from.result + 1) expect q.block q.kind q.requester q.stamp ≡ forwards_to q (xs ++ (to, reply) ∷ []) =
    ap (λ k. forwards (k + 1) expect q.block q.kind q.requester q.stamp) place ∙ sym more ∙ sym (map-append (λ x. forward_of q x.0) xs ((to, reply) ∷ [])) in
    let long : length (xs ++ (to, reply) ∷ []) ≡ length xs + 1 = length-append xs ((to, reply) ∷ []) in
    let apart : to ≢ q.requester = λ e. apart_from expect q.requester to c.requires.others named (sym e) in
    let answered = asks.5 in
    let told = told_more g.row.SETS g.row.WAYS q xs to answered.1 answered.0 c.loop-to.seats c.loop-to.settled c.forward-answer.new.seats c.reply-settled.new.seats c.reply-settled.result reply answered.3 (apart, c.forward-answer.ensures) c.reply-settled.ensures in (
      c.reply-settled.auto.seats ∙ c.forward-answer.auto.seats ∙ so_far.0,
      omega (arith, place, below),
      omega (arith, place, next.from, so_far.2),
      omega (arith, so_far.3, c.refused-refusals.ensures.most),
      (
        xs ++ (to, reply) ∷ [],
        all,
        omega (arith, long, asks.2),
        omega (arith, asks.3, c.refused-refusals.ensures.value, refused_more xs (to, reply)),
        (λ i. asked_more asked c.loop-to.from to next i xs reply (asks.4 i) ∙ ap (λ k. names asked i && nat_lt i (k + 1)) (sym place)),
        (answered.0, answered.1, answered.2, told),
        FoldsTo-push (λ l x m. g.L.Listener.hears l (refusal_of x.0 q.requester q.block x.1) m) c.args.listener.now xs c.loop-to.listener (to, reply) c.hear.new.self asks.6 (subst (λ e. g.L.Listener.hears c.loop-to.listener e c.hear.new.self) c.refusal.ensures c.hear.ensures),
      ),
    )

pub loop-to-smaller : goal.loop-to-smaller
loop-to-smaller g c =
    let next : IsNext c.below-asked.result c.loop-to.from c.in-Some.to = c.in-Some.ensures.some in
    let below : c.in-Some.to < c.args.harts = asked-below (names c.args.granted.now.expect) c.args.harts c.below-asked.result c.below-asked.ensures c.in-Some.to next.named in
    omega (arith, next.from, below, c.index-from.ensures.value)

-- and none after the last
pub returns-clause-answered : goal.returns-clause-answered
returns-clause-answered g c =
    let q = c.args.request.now in
    let so_far = c.loop-to.invariant in
    let asks = so_far.4 in (
      asks.0,
      forwards-end (names c.args.granted.now.expect) q.block q.kind q.requester q.stamp c.args.harts c.below-asked.result c.below-asked.ensures c.loop-to.from so_far.1 c.in_default.ensures.none ∙ asks.1,
      record {
        asked_is = λ i. asked_all c.below-asked.result c.loop-to.from asks.0 i c.in_default.ensures.none (asks.4 i);
        number_is = asks.2;
        refusals_is = asks.3;
      },
      asks.5,
      asks.6,
    )
