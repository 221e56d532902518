use Rattle.std.proofs.Common.{◌≡◌, ◌≤◌, ◌∙◌, Option, arith, ap, inl, inr, is_some, length, refl, subst, sym}
use Rattle.std.specs.Option.{option_map_or}
use Rattle.std.proofs.lemmas.Bool.{cases_lt}
use Rattle.std.proofs.lemmas.Option.{slice_get_past}
use Rattle.flat.specs.State.{idle}
use Rattle.hart.specs.Shown.{shown_hart}
use Rattle.protocol.specs.Start.{first_hart}
use Rattle.machine.specs.States.{Seat, shown}
use Rattle.watch.specs.Runs.{IsFree}
use Rattle.watch.proofs.Requests.{none_mapped}
use Rattle.watch.proofs.asking.all_free.Goals as goal

pub loop-i-init : goal.loop-i-init
loop-i-init g c = λ j lt. absurd (omega (arith, lt))

pub loop-i-preserved : goal.loop-i-preserved
loop-i-preserved g c =
    let w = shown g.row.SETS c.args.machine.now in
    let id = c.new-id.result in
    let here : IsFree (w.harts id) = (
      none_mapped (λ r. r.block) (w.harts id).request (sym (ap is_some c.waits_for.ensures) ∙ sym c.is_some.ensures ∙ c.if-is_some.false),
      sym c.fresh.ensures ∙ c.if-fresh.false,
    ) in
    λ j lt. elim (cases_lt j c.loop-i.i) [
      | inl less ↦ c.loop-i.invariant j less
      | inr le ↦ let same : c.loop-i.i ≡ j = omega (arith, le, lt) in subst (λ k. IsFree (w.harts k)) (c.new-id.ensures ∙ same) here
    ]

-- and so are numbers that are no hart's
pub returns : goal.returns
returns g c =
    let v = c.args.machine.now in
    let count = c.harts-i-end.ensures in
    let ends : length v.seats ≤ c.loop-i.i = omega (arith, count.value, c.loop-i-test.false) in (
      λ is j. elim (cases_lt j c.loop-i.i) [
        | inl less ↦ c.loop-i.invariant j less
        | inr le ↦ let past : length v.seats ≤ j = omega (arith, le, ends) in
            subst (λ (o : Option Seat). IsFree (option_map_or (λ (s : Seat). shown_hart g.row.SETS s.output s.hart) o (first_hart idle))) (sym (slice_get_past v.seats j past)) (refl, refl)
      ],
      λ free. refl,
    )
