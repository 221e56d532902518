use Rattle.std.proofs.Common.{inl, inr, arith, sym, subst, ◌∙◌}
use Rattle.std.proofs.lemmas.Bool.{cases_eq}
use Rattle.network.proofs.Sorted.{none_from, is_some_at}
use Rattle.network.proofs.Crowded.{crowded}
use Rattle.network.proofs.Under.{IsHeld, held, gone}
use Rattle.network.proofs.net.greatest_free.Goals as goal

-- else there would be more messages than memory holds
pub overflow_sub-number-in-loop-number : goal.overflow_sub-number-in-loop-number
overflow_sub-number-in-loop-number c =
    let slots = c.args.flights.now.slots in
    elim (cases_eq c.loop-number.number 0) [
      | inl e ↦
          let here : IsHeld slots c.loop-number.number = held slots c.loop-number.number c.find_in_all.result c.find_in_all.ensures.some (sym c.is_some.ensures ∙ c.loop-number-test.true) in
          let more = crowded 18446744073709551615 slots (λ number lower. elim (cases_eq number c.loop-number.number) [
            | inl same ↦ subst (IsHeld slots) (sym same) here
            | inr ne ↦ c.loop-number.invariant.held number (omega (arith, e, ne)) lower
          ]) in
          absurd (omega (arith, more, c.requires, c.capacity-capacity.ensures.value))
      | inr ne ↦ omega (arith, ne)
    ]

pub loop-number-smaller : goal.loop-number-smaller
loop-number-smaller c = omega (arith, overflow_sub-number-in-loop-number c)

pub loop-number-preserved : goal.loop-number-preserved
loop-number-preserved c =
    let slots = c.args.flights.now.slots in
    record {
      below = omega (arith, c.loop-number.invariant.below);
      held = λ other above below. elim (cases_eq other c.loop-number.number) [
        | inl same ↦ subst (IsHeld slots) (sym same) (held slots c.loop-number.number c.find_in_all.result c.find_in_all.ensures.some (sym c.is_some.ensures ∙ c.loop-number-test.true))
        | inr ne ↦ c.loop-number.invariant.held other (omega (arith, above, ne)) below
      ];
    }

pub returns : goal.returns
returns c =
    let slots = c.args.flights.now.slots in
    record {
      below = omega (arith, c.loop-number.invariant.below);
      free = none_from slots c.loop-number.number (gone slots c.loop-number.number c.find_in_all.result c.find_in_all.ensures.none (sym c.is_some.ensures ∙ c.loop-number-test.false));
      greatest = λ other above below. let one = c.loop-number.invariant.held other above (omega (arith, below)) in is_some_at slots other one.0 one.1 one.2 one.3;
    }
