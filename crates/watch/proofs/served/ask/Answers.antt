use Rattle.std.proofs.Common.{◌≡◌, ◌<◌, ◌∷◌, ◌∙◌, ℕ, List, arith, is_some, refl, subst₂, sym}
use Rattle.std.specs.Prelude.{max}
use Rattle.words.specs.Harts.{names}
use Rattle.machine.specs.States.{State, geometry, hart_at, shown}
use Rattle.watch.specs.Kinds.{Grows, count_at, held_by, is_count, kind_asked, number_in, one_if}
use Rattle.watch.specs.declared.counting.Tally.{Tally}
use Rattle.watch.specs.declared.kinds.Kind.{Kind}
use Rattle.watch.specs.Runs.{HasAsked, TakesCounted}
use Rattle.watch.proofs.AskedTurns.{asked_counted, not_held, others_free, service_counted, stale_now, step_alone}
use Rattle.watch.proofs.CoreAsks.{asked}
use Rattle.watch.proofs.Requests.{one_more, wanted}
use Rattle.watch.proofs.Tallying.{grown}
use Rattle.watch.proofs.served.ask.Goals as goal

-- the request isn't served at once
pub returns-in_default-serve_asked-clause-asked : goal.returns-in_default-serve_asked-clause-asked
returns-in_default-serve_asked-clause-asked g c = λ v after before has sent.
    let G = geometry g.row.SETS g.row.WAYS in
    let w = c.args.machine.now in
    let i = c.args.hart in
    let mid : Tally = c.args.tally.now in
    let r = wanted (hart_at g.row.SETS w.seats i).request c.in-Some.asked (sym c.in-Some.is ∙ c.request_of.ensures) in
    let more : v.sent < w.sent = omega (arith, sent, c.if-sent.false, c.sent.ensures) in
    let get = asked G v w i has.entry has.turn.made has.quiescent.quiet (has.free i).0 r.0 r.1 in
    let none = c.in_default-serve_asked.ensures.none in
    let u : Tally = record mid { harts = c.note_busy.new.self; machine = c.note_request.new.self } in
    let busy : (h : ℕ) (k : Kind) → Grows (count_at c.add.new.self h k) (number_in h k (held_by i ((shown g.row.SETS w).entries c.in-Some.asked.block).busy)) (count_at u.harts h k) =
    λ h k. subst₂ (λ (t : Tally) (m : State). Grows (count_at t.harts h k) (number_in h k (held_by i ((shown g.row.SETS m).entries c.in-Some.asked.block).busy)) (count_at u.harts h k)) none.1 none.0 (c.note_busy.ensures h k) in
    let kind : kind_asked r.0.kind (is_some ((hart_at g.row.SETS w.seats i).lines r.0.block)) ≡ c.kind_asked-kind.result =
    (λ j. kind_asked (r.2 j) (is_some ((hart_at g.row.SETS w.seats i).lines (r.3 j)))) ∙ sym c.kind_asked-kind.ensures in
    let harts : (h : ℕ) (k : Kind) → Grows (count_at mid.harts h k)
    (number_in h k ((i, kind_asked r.0.kind (is_some ((hart_at g.row.SETS w.seats i).lines r.0.block))) ∷ held_by i ((shown g.row.SETS w).entries r.0.block).busy)) (count_at u.harts h k) =
    λ h k. subst₂ (λ (x : Kind) (b : ℕ). Grows (count_at mid.harts h k) (number_in h k ((i, x) ∷ held_by i ((shown g.row.SETS w).entries b).busy)) (count_at u.harts h k)) (sym kind) (sym r.3)
    (grown (count_at mid.harts h k) (count_at c.add.new.self h k) (count_at u.harts h k) (one_if (is_count h k (i, c.kind_asked-kind.result))) (number_in h k (held_by i ((shown g.row.SETS w).entries c.in-Some.asked.block).busy))
    (number_in h k ((i, c.kind_asked-kind.result) ∷ held_by i ((shown g.row.SETS w).entries c.in-Some.asked.block).busy)) (c.add.ensures h k) (busy h k) refl) in
    let counted : (set : ℕ) → ((j : ℕ) → names set j ≡ names mid.fresh j) → TakesCounted G v after 1 w i before (record u { fresh = set }) =
    λ set same. asked_counted G v w after i before mid has (record u { fresh = set }) r.0 r.1 more get harts same c.note_request.ensures.sums c.note_request.ensures.most_in_flight
    (c.note_request.ensures.most_in_use ∙ (λ j. max mid.machine.most_in_use (c.used.ensures.count j))) in
    subst₂ (λ (m : State) (t : Tally). HasAsked G v after i 1 m before (record t { harts = c.note_busy.new.self })) (sym none.0) (sym none.1)
    (step_alone G v w after i before mid has u refl counted)

pub returns-clause-asked : goal.returns-clause-asked
returns-clause-asked g c = λ v after before has sent.
    let G = geometry g.row.SETS g.row.WAYS in
    let w = c.args.machine.now in
    let z = c.serve_asked.new.machine in
    let i = c.args.hart in
    let mid : Tally = c.args.tally.now in
    let r = wanted (hart_at g.row.SETS w.seats i).request c.in-Some.asked (sym c.in-Some.is ∙ c.request_of.ensures) in
    let more : v.sent < w.sent = omega (arith, sent, c.if-sent.false, c.sent.ensures) in
    let get = asked G v w i has.entry has.turn.made has.quiescent.quiet (has.free i).0 r.0 r.1 in
    let serves = c.in-Some-serve_asked.ensures.served in
    let u : Tally = record mid { harts = c.add.new.self; machine = c.note_request.new.self } in
    let kind : kind_asked r.0.kind (is_some ((hart_at g.row.SETS w.seats i).lines r.0.block)) ≡ c.kind_asked-kind.result =
    (λ j. kind_asked (r.2 j) (is_some ((hart_at g.row.SETS w.seats i).lines (r.3 j)))) ∙ sym c.kind_asked-kind.ensures in
    let harts : (h : ℕ) (k : Kind) → Grows (count_at mid.harts h k)
    (number_in h k ((i, kind_asked r.0.kind (is_some ((hart_at g.row.SETS w.seats i).lines r.0.block))) ∷ held_by i ((shown g.row.SETS w).entries r.0.block).busy)) (count_at u.harts h k) =
    λ h k. subst₂ (λ (a : Kind) (held : List (ℕ × Kind)). Grows (count_at mid.harts h k) (number_in h k ((i, a) ∷ held)) (count_at u.harts h k)) (sym kind) (sym (not_held G v w z i r.0 get serves.service serves.replies serves.served))
    (one_more h k (i, c.kind_asked-kind.result) (count_at mid.harts h k) (count_at u.harts h k) (c.add.ensures h k)) in
    let counted = asked_counted G v w after i before mid has u r.0 r.1 more get harts (λ j. refl) c.note_request.ensures.sums c.note_request.ensures.most_in_flight
    (c.note_request.ensures.most_in_use ∙ (λ j. max mid.machine.most_in_use (c.used.ensures.count j))) in
    service_counted G v w z after i c.in-Some-serve_asked.turns r.0 get before u c.serve_asked.new.tally serves counted (others_free G v w after i before mid has) (stale_now G v w after i before mid has) c.are_in_order.ensures.numbered
