use Rattle.std.proofs.Common.{◌∙◌, ◌+◌, ap, inr, min, sym}
use Rattle.std.specs.Duration.{as_nanos, max_nanos}
use Rattle.requests.proofs.meter.MeterProgress.tell.Goals as goal

-- a line was due, and is put
pub returns-clause-shown : goal.returns-clause-shown
returns-clause-shown g c = inr (as_nanos c.in-Some.gone, c.in-Some.ensures.due, c.saturating_add-self-2.ensures ∙ ap (λ n. min (as_nanos c.in-Some.gone + n) max_nanos) c.from_millis.ensures, c.put_line.result, rw (sym c.a_second-pace.ensures) c.put_line.ensures)
