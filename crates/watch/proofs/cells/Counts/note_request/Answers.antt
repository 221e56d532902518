use Rattle.std.proofs.Common.{◌≡◌, ◌∙◌, ◌∷◌, ℕ, List, ap, is_some, refl, subst, sym}
use Rattle.machine.specs.States.{shown}
use Rattle.watch.specs.declared.kinds.Kind.{Kind}
use Rattle.watch.specs.Kinds.{Grows, count_at, counts_request, held_by, is_count, kind_asked, number_in, one_if}
use Rattle.watch.proofs.Requests.{wanted}
use Rattle.watch.proofs.Tallying.{grown}
use Rattle.watch.proofs.cells.Counts.note_request.Goals as goal

pub returns : goal.returns
returns g c h k =
    let w = shown g.row.SETS c.args.machine.now in
    let i = c.args.id in
    let r = wanted (w.harts i).request c.in-Some.asked (sym c.in-Some.is ∙ c.request_of.ensures) in
    let held = held_by i (w.entries c.in-Some.asked.block).busy in
    let all : counts_request w i (w.harts i).request ≡ (i, c.kind_asked.result) ∷ held =
    ap (counts_request w i) r.1 ∙ (λ j. (i, kind_asked (r.2 j) (is_some ((w.harts i).lines (r.3 j)))) ∷ held_by i (w.entries (r.3 j)).busy)
    ∙ ap (λ (x : Kind). (i, x) ∷ held) (sym c.kind_asked.ensures) in
    subst (λ (l : List (ℕ × Kind)). Grows (count_at c.args.self.now h k) (number_in h k l) (count_at c.note_busy.new.self h k)) (sym all)
    (grown (count_at c.args.self.now h k) (count_at c.add.new.self h k) (count_at c.note_busy.new.self h k) (one_if (is_count h k (i, c.kind_asked.result))) (number_in h k held)
    (number_in h k ((i, c.kind_asked.result) ∷ held)) (c.add.ensures h k) (c.note_busy.ensures h k) refl)
