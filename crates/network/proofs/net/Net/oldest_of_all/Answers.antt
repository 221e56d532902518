use Rattle.std.proofs.Common.{◌≡◌, ◌≤◌, ◌∙◌, sym, length, arith, true, false, subst, inl, inr}
use Rattle.std.specs.Prelude.{IfSome, IfNone}
use Rattle.std.specs.Fn.{FnReturnsAt}
use Rattle.std.proofs.lemmas.Option.{same_Some, none-some}
use Rattle.network.specs.declared.net.Flight.{Flight}
use Rattle.network.specs.Flights.{Flights, IsOldest, NonePasses}
use Rattle.network.proofs.Best.{IsBest-skip, IsBest-take, oldest_best, none_best, told}
use Rattle.network.proofs.net.Net.oldest_of_all.Goals as goal
use Rattle.network.proofs.net.Net.oldest_of_all.Goals.{in-Some+then-is_lower+then-passes, in-Some+else-is_lower, else-is_lower-via-then-is_lower+else-passes, else-is_lower-via-else-is_lower, in_default}

pub loop-key-preserved : goal.loop-key-preserved
loop-key-preserved g c =
    let answers = FnReturnsAt g.F.Fn c.args.passes in
    let slots = c.self.inside.flights.slots in
    let skip = IsBest-skip (λ f. answers f.message true) (λ f. answers f.message false) slots c.loop-key.key c.loop-key.best c.loop-key.invariant in
    elim c.match-get.branch [
      | in-Some+then-is_lower+then-passes w ↦
          rw w.best-is (IsBest-take (λ f. answers f.message true) (λ f. answers f.message false) slots c.loop-key.key c.loop-key.best w.in-Some.flight.now c.loop-key.invariant (sym w.in-Some.ensures)
          (sym w.is_lower.ensures ∙ w.if-is_lower.true) (told _ _ _ _ _ w.passes.ensures w.if-passes.true))
      | in-Some+else-is_lower w ↦ rw w.best-is (skip (λ f at.
          let same : w.in-Some.flight.now ≡ f = same_Some w.in-Some.flight.now f (w.in-Some.ensures ∙ at) in
          elim w.else-is_lower.branch [
            | else-is_lower-via-then-is_lower+else-passes v ↦
                let P : Flight → Type 0 = λ x. answers x.message false in inl (subst P same (told _ _ _ _ _ v.passes.ensures v.if-passes.false))
            | else-is_lower-via-else-is_lower v ↦ inr (rw (← same) (sym w.is_lower.ensures ∙ v.if-is_lower.false))
          ]))
      | in_default w ↦ rw w.best-is (skip (λ f at. absurd (none-some f (w.in_default.ensures ∙ at))))
    ]

pub returns-clause-some : goal.returns-clause-some
returns-clause-some g c =
    let answers = FnReturnsAt g.F.Fn c.args.passes in
    let slots = c.self.inside.flights.slots in
    let all : length slots ≤ c.loop-key.key = omega (arith, c.capacity-key-end.ensures.slots, c.loop-key-test.false) in
    subst (λ (v : Flights). IfSome c.loop-key.best (IsOldest answers v.flights)) c.self.view_is (oldest_best slots c.loop-key.key all answers c.self.invariant.1.apart c.loop-key.best c.loop-key.invariant)

pub returns-clause-none : goal.returns-clause-none
returns-clause-none g c =
    let answers = FnReturnsAt g.F.Fn c.args.passes in
    let slots = c.self.inside.flights.slots in
    let all : length slots ≤ c.loop-key.key = omega (arith, c.capacity-key-end.ensures.slots, c.loop-key-test.false) in
    subst (λ (v : Flights). IfNone c.loop-key.best (NonePasses answers v.flights)) c.self.view_is (none_best slots c.loop-key.key all answers c.loop-key.best c.loop-key.invariant)
