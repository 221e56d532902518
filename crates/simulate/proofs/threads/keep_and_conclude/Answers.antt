use Rattle.std.proofs.Common.{inl, refl}
use Rattle.std.proofs.lemmas.Result.{err_from_is_err_and}
use Rattle.simulate.proofs.ThreadedRuns.{behind}
use Rattle.simulate.proofs.threads.keep_and_conclude.Goals as goal

pub returns-in_err-keep : goal.returns-in_err-keep
returns-in_err-keep g c =
    let p = err_from_is_err_and c.from_residual.result c.from_residual.ensures.1 in
    rw (p.1, p.2) (inl (c.in_err-keep.ensures, refl))

pub returns : goal.returns
returns g c = behind _ _ _ _ c.conclude.result c.in_ok-keep.ensures c.conclude.ensures
