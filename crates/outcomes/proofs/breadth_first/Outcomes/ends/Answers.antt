use Rattle.std.proofs.Common.{◌≡◌, ◌<◌, ℕ, arith, Some, length, sym, ap, subst, ◌∙◌}
use Rattle.std.proofs.lemmas.Option.{slice_get_within}
use Rattle.isolation.specs.Walks.{IsEnded}
use Rattle.outcomes.specs.Searches.{flat_at, IsEnd}
use Rattle.outcomes.proofs.Pooled.{stands}
use Rattle.outcomes.proofs.Searched.{one_there}
use Rattle.outcomes.proofs.Listed.{listed_more}
use Rattle.outcomes.proofs.breadth_first.Outcomes.ends.Goals as goal

pub loop-place-preserved : goal.loop-place-preserved
loop-place-preserved c =
    let o = c.args.self.now in
    let lt : c.loop-place.place < length o.states.keys = omega (arith, c.loop-place-test.true, c.loop-place.auto.place-end, c.len-place-end.ensures.len) in
    let x = stands o.states.keys c.loop-place.place lt in
    let same = c.standing.ensures x.0 x.1 in
    listed_more (IsEnd o) c.loop-place.ends.items c.push_if.new.list.items c.loop-place.place c.is_ended.result c.in_ok-push_if.ensures
    (λ yes_. record { state = x.0; stands = x.1; ended = subst IsEnded same (c.is_ended.ensures.yes yes_) })
    (λ no_ end. c.is_ended.ensures.no no_ (subst IsEnded (ap (flat_at o) (one_there o.states.keys c.loop-place.place end.state x.0 end.stands x.1) ∙ sym same) end.ended))
    c.loop-place.invariant
