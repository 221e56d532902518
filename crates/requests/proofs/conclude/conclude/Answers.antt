use Rattle.std.proofs.Common.{refl}
use Rattle.std.proofs.lemmas.Result.{err_from_is_err_and}
use Rattle.requests.proofs.conclude.conclude.Goals as goal

pub returns-in_err-report : goal.returns-in_err-report
returns-in_err-report g c =
    let p = err_from_is_err_and c.from_residual.result c.from_residual.ensures.1 in
    rw (p.1, p.2) (
      refl,
      λ f belongs. let puts = c.in_err-report.ensures f belongs in (c.status-status.result, c.status-status.ensures.greatest f belongs, record { part = puts.part; fault = puts.fault }),
    )

pub returns : goal.returns
returns g c = (
  c.status-status.ensures.reported,
  λ f belongs. let puts = c.in_ok-report.ensures f belongs in (c.status-status.ensures.greatest f belongs, record { whole = puts.whole; clean = puts.clean }),
)
