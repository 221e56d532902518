use Rattle.std.proofs.Common.{inl, inr, rules}
use Rattle.render.specs.Statuses.{IsReported}
use Rattle.simulate.proofs.entry.carry.Goals as goal

pub returns-in-Ok : goal.returns-in-Ok
returns-in-Ok g c = (
  c.sheet_for.new.store,
  c.carry_out-outcome.new.chart.sink,
  (
    c.in_ok-sheet_for.field-0,
    rw c.page_of-path.ensures at c.in_ok-sheet_for.ensures,
    rw (c.print_at_once.ensures, c.new-chart.ensures.sink) at c.carry_out-outcome.ensures,
  ),
  inl (rw (c.page_of-path.ensures, c.into_sink.ensures) at c.in-Ok.ensures),
)

-- the file could not be written out, but there was no report
pub returns : goal.returns
returns g c =
    let unreported : IsReported c.carry_out-outcome.result.status → ⊥ = search rules in (
      c.sheet_for.new.store,
      c.carry_out-outcome.new.chart.sink,
      (
        c.in_ok-sheet_for.field-0,
        rw c.page_of-path.ensures at c.in_ok-sheet_for.ensures,
        rw (c.print_at_once.ensures, c.new-chart.ensures.sink) at c.carry_out-outcome.ensures,
      ),
      inr (c.in-Err-2.field-0, rw (c.page_of-path.ensures, c.into_sink.ensures) at c.in-Err-2.ensures, unreported),
    )
