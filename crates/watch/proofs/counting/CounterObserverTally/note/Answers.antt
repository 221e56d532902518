use Rattle.std.proofs.Common.{◌≡◌, ℕ, Option, subst}
use Rattle.words.specs.Harts.{names}
use Rattle.schedule.specs.Moments.{Moment}
use Rattle.machine.specs.States.{shown}
use Rattle.watch.specs.declared.counting.Tally.{Tally}
use Rattle.watch.specs.declared.kinds.Kind.{Kind}
use Rattle.watch.specs.Kinds.{Grows, asks_if, count_at, counts_asked, fresh_behind, fresh_by, number_in}
use Rattle.watch.proofs.Tallying.{adds_one, one_counted}
use Rattle.watch.proofs.counting.CounterObserverTally.note.Goals as goal

pub returns-clause-noted : goal.returns-clause-noted
returns-clause-noted g c =
    let S = g.row.SETS in
    let machine = c.args.machine.now in
    let mid : Tally = c.hear.new.self in
    let after : Tally = record { harts = c.note_asked.new.self; machine = c.note.new.self; fresh = c.note_fresh.new.fresh } in
    let m : Moment = record { sent = c.args.sent; step = c.args.step.now; arrival = c.args.arrival.now; entry = c.args.entry.now; after = machine } in
    let asked : (h : ℕ) (k : Kind) → Grows (count_at mid.harts h k) (number_in h k (counts_asked (shown S machine) m.sent machine.sent (asks_if m.arrival) m.step)) (count_at after.harts h k) =
    λ h k. subst (λ (ask : Option (ℕ × ℕ)). Grows (count_at mid.harts h k) (number_in h k (counts_asked (shown S machine) m.sent machine.sent ask m.step)) (count_at after.harts h k))
    c.ask_in.ensures (c.note_asked.ensures h k) in
    let fresh : (i : ℕ) → names after.fresh i ≡ fresh_behind S (names mid.fresh) m i =
    λ i. subst (λ (to : Option ℕ). names after.fresh i ≡ fresh_by (shown S machine) to m.step (names mid.fresh) i) c.taker_in.ensures (c.note_fresh.ensures i) in
    adds_one S m c.args.tally.now after (one_counted S m c.args.tally.now mid after c.hear.ensures asked fresh c.note.ensures.sums c.note.ensures.most_in_flight c.note.ensures.most_in_use)
