use Rattle.std.proofs.Common.{inl, inr, length, arith, sym, ap, ◌∙◌}
use Rattle.std.proofs.lemmas.Bool.{cases_eq}
use Rattle.machine.proofs.Seats.{kept_by, kept_here}
use Rattle.machine.proofs.Scans.{none_below, found_at}
use Rattle.machine.proofs.values.kept.Goals as goal

pub returns-in-Some : goal.returns-in-Some
returns-in-Some g c =
    sym (found_at (kept_by g.row.SETS c.args.block c.args.seats.now) c.loop-seat.seat-index c.in-Some.content (length c.args.seats.now) c.loop-seat.invariant
    (kept_here g.row.SETS c.args.block c.args.seats.now c.loop-seat.seat-index (record { hart = c.seat.inside.hart; output = c.seat.inside.output.items }) c.seat-item.result c.kept_content.result
    c.loop-seat-test.true c.seat.view_is c.seat-item.is c.kept_content.ensures ∙ c.in-Some.is)
    c.loop-seat-test.true)

pub loop-seat-preserved : goal.loop-seat-preserved
loop-seat-preserved g c = λ i lt. elim (cases_eq i c.loop-seat.seat-index) [
  | inl e ↦ ap (kept_by g.row.SETS c.args.block c.args.seats.now) e
      ∙ kept_here g.row.SETS c.args.block c.args.seats.now c.loop-seat.seat-index (record { hart = c.seat.inside.hart; output = c.seat.inside.output.items }) c.seat-item.result c.kept_content.result
      c.loop-seat-test.true c.seat.view_is c.seat-item.is c.kept_content.ensures
      ∙ c.in_default.is
  | inr ne ↦ c.loop-seat.invariant i (omega (arith, lt, ne))
]

pub returns : goal.returns
returns g c = sym (none_below (kept_by g.row.SETS c.args.block c.args.seats.now) (length c.args.seats.now) (λ i lt. c.loop-seat.invariant i (omega (arith, lt, c.loop-seat-test.false))))
