use Rattle.std.proofs.Common.{inl, inr, refl}
use Rattle.std.proofs.lemmas.Result.{err_from_is_err_and, MatchResult-weaker}
use Rattle.simulate.proofs.entry.obey.Goals as goal

-- the words say no request
pub returns-in_err-request-clause-obeyed : goal.returns-in_err-request-clause-obeyed
returns-in_err-request-clause-obeyed g c =
    let p = err_from_is_err_and c.from_residual.result c.from_residual.ensures.1 in
    rw (p.1, p.2) (inl (c.in_err-request.field-0.0, c.in_err-request.ensures, refl, refl))

-- it would overwrite a file that it reads
pub returns-in_err-spare_inputs-clause-obeyed : goal.returns-in_err-spare_inputs-clause-obeyed
returns-in_err-spare_inputs-clause-obeyed g c =
    let p = err_from_is_err_and c.from_residual-in_err-spare_inputs.result c.from_residual-in_err-spare_inputs.ensures.1 in
    rw (p.1, p.2) (inr (c.in_ok-request.request, c.in_ok-request.ensures, inl (c.in_err-spare_inputs.ensures, refl)))

pub returns-clause-obeyed : goal.returns-clause-obeyed
returns-clause-obeyed g c = MatchResult-weaker c.serve.result c.serve.ensures.served (λ status is. (c.in_ok-request.request, c.in_ok-request.ensures, c.in_ok-spare_inputs.ensures, is))
    (λ fault is. inr (c.in_ok-request.request, c.in_ok-request.ensures, inr (c.in_ok-spare_inputs.ensures, is)))
