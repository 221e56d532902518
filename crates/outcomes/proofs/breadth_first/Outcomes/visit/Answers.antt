use Rattle.std.proofs.Common.{◌≡◌, ℕ, refl, sym, ap, subst, ◌∙◌}
use Rattle.std.proofs.lemmas.Option.{slice_get_within}
use Rattle.std.proofs.lemmas.Result.{IfOk-weaker, on_ok_weaker}
use Rattle.isolation.specs.Moves.{Place, MovesInOrder, LeadsInOrder, IsReserved, reserved_behind}
use Rattle.outcomes.specs.declared.breadth_first.Outcomes.{Outcomes}
use Rattle.outcomes.specs.declared.pool.State.{State}
use Rattle.outcomes.specs.Turns.{after, entries_of}
use Rattle.outcomes.specs.Searches.{setting_at, flat_at, place_at, shown_by, IsMet}
use Rattle.outcomes.proofs.Searched.{one_there, place_still, extends_on, extends_none, grown, grown_extends, grown_search}
use Rattle.outcomes.proofs.Led.{one_place, leads}
use Rattle.outcomes.proofs.breadth_first.Outcomes.visit.Goals as goal

pub returns-in_default-clause-extends : goal.returns-in_default-clause-extends
returns-in_default-clause-extends c = extends_none c.args.self.now

pub returns-in_default-clause-met : goal.returns-in_default-clause-met
returns-in_default-clause-met c _ q at way =
    absurd (c.in_default.ensures.none (subst (IsReserved (place_at c.args.self.now c.args.state).reserved) (sym c.move_of-shown.ensures) way.reason))

pub note-requires-clause-search : goal.note-requires-clause-search
note-requires-clause-search c = grown_search c.args.self.now c.after.new.self c.requires.search c.in_ok-next.ensures.grows

pub note-requires-clause-earlier : goal.note-requires-clause-earlier
note-requires-clause-earlier c = slice_get_within c.args.self.now.states.keys c.args.from c.args.state c.requires.stands

pub note-requires-clause-moves : goal.note-requires-clause-moves
note-requires-clause-moves c x at =
    let o = c.args.self.now in
    let n : Outcomes = record o { pool = c.after.new.self } in
    let next = c.in_ok-next.next in
    let p = place_at o c.args.state in
    let here : c.args.state ≡ x = one_there o.states.keys c.args.from c.args.state x c.requires.stands at in
    let same : place_at n x ≡ p = ap (place_at n) (sym here) ∙ place_still o n c.args.from c.args.state c.requires.search (grown_extends o c.after.new.self c.requires.search c.in_ok-next.ensures.grows) c.requires.stands in
    let shown = shown_by c.move_of-shown.result in
    let moves : MovesInOrder p.flat shown (after o.image.items p.flat c.args.turn) = subst (λ es. MovesInOrder p.flat es (after o.image.items p.flat c.args.turn)) (sym c.move_of-shown.ensures) c.requires.moves.1 in
    let way : LeadsInOrder p shown (place_at n next) =
    leads p (place_at n next) shown (after o.image.items p.flat c.args.turn) moves (c.in_ok-next.ensures.flat (setting_at o) o.image.items refl)
    c.in-Some.ensures.some.0 (λ k. c.in_ok-next.ensures.reserved k ∙ c.in-Some.ensures.some.1 k) in
    subst (λ z. LeadsInOrder z shown (place_at n next)) (sym same) way

pub returns-clause-extends : goal.returns-clause-extends
returns-clause-extends c =
    let o = c.args.self.now in
    on_ok_weaker c.note.result (λ e. extends_on o (record o { pool = c.after.new.self }) c.note.new.self (grown_extends o c.after.new.self c.requires.search c.in_ok-next.ensures.grows) e) c.note.ensures.extends

pub returns-clause-met : goal.returns-clause-met
returns-clause-met c =
    let o = c.args.self.now in
    let n : Outcomes = record o { pool = c.after.new.self } in
    let next = c.in_ok-next.next in
    let p = place_at o c.args.state in
    let flat : flat_at n next ≡ after o.image.items p.flat c.args.turn = c.in_ok-next.ensures.flat (setting_at o) o.image.items refl in
    IfOk-weaker c.note.result _ _
    (λ yes met true_ q at way.
    let reserved : (k : ℕ) → (place_at n next).reserved k ≡ q.reserved k =
    λ k. c.in_ok-next.ensures.reserved k ∙ c.in-Some.ensures.some.1 k
    ∙ ap (λ es. reserved_behind p.flat p.reserved es k) c.move_of-shown.ensures ∙ (λ j. sym way.reserved j k) in
    subst (IsMet c.note.new.self) (one_place (place_at n next) q (flat ∙ sym at) reserved) (met true_))
    c.note.ensures.met
