use Rattle.std.proofs.Common.{List, inl, inr, refl, subst}
use Rattle.std.proofs.lemmas.Result.{err_from_is_err_and}
use Rattle.outcomes.specs.declared.gathering.End.{End}
use Rattle.requests.specs.Ends.{IsWitnessed, IsUnwitnessed, states_told}
use Rattle.requests.proofs.Finding.{ends_with, took_ends, took_some_ends}
use Rattle.requests.proofs.search.tell_ends.Goals as goal

pub returns-in_err-ends : goal.returns-in_err-ends
returns-in_err-ends g c =
    let p = err_from_is_err_and c.from_residual.result c.from_residual.ensures.1 in
    rw (p.1, p.2) (inl (refl, refl, refl))

pub returns-in_err-put_witness : goal.returns-in_err-put_witness
returns-in_err-put_witness g c =
    let p = err_from_is_err_and c.from_residual-in_err-put_witness.result c.from_residual-in_err-put_witness.ensures.1 in
    let o = c.args.found.now.outcomes in
    let ends = c.in_ok-ends.ends.items in
    rw (p.1, p.2) (inr (
      ends,
      ends_with c.args.asked.now o c.deref.result.now c.args.found.now.addrs.items ends c.deref.ensures.value c.requires.addrs c.in_ok-ends.ensures,
      inl (
        subst (λ (es : List End). IsUnwitnessed o es (g.T.Sink.state c.args.page.now) (g.T.Sink.state c.put_witness.new.page) c.args.asked.now.witness c.in_err-put_witness.field-0.0) c.deref-2.ensures.value c.in_err-put_witness.ensures,
        refl,
      ),
    ))

pub returns-in_err-put_ends : goal.returns-in_err-put_ends
returns-in_err-put_ends g c =
    let p = err_from_is_err_and c.from_residual-in_err-put_ends.result c.from_residual-in_err-put_ends.ensures.1 in
    let o = c.args.found.now.outcomes in
    let ends = c.in_ok-ends.ends.items in
    rw (p.1, p.2) (inr (
      ends,
      ends_with c.args.asked.now o c.deref.result.now c.args.found.now.addrs.items ends c.deref.ensures.value c.requires.addrs c.in_ok-ends.ensures,
      inr (
        refl,
        took_some_ends (g.O.Sink.state c.args.out.now) (g.O.Sink.state c.put_ends.new.sink) c.deref-3.result.now ends c.states_told.result (states_told c.args.asked.now o) o.is_all c.deref-3.ensures.value c.states_told.ensures
            (record { part = c.in_err-put_ends.ensures.part; fault = c.in_err-put_ends.ensures.fault }),
        subst (λ (es : List End). IsWitnessed o es (g.T.Sink.state c.args.page.now) (g.T.Sink.state c.put_witness.new.page) c.args.asked.now.witness) c.deref-2.ensures.value c.in_ok-put_witness.ensures,
      ),
    ))

pub returns : goal.returns
returns g c =
    let o = c.args.found.now.outcomes in
    let ends = c.in_ok-ends.ends.items in (
      ends,
      ends_with c.args.asked.now o c.deref.result.now c.args.found.now.addrs.items ends c.deref.ensures.value c.requires.addrs c.in_ok-ends.ensures,
      c.search_status.ensures,
      took_ends (g.O.Sink.state c.args.out.now) (g.O.Sink.state c.put_ends.new.sink) c.deref-3.result.now ends c.states_told.result (states_told c.args.asked.now o) o.is_all c.deref-3.ensures.value c.states_told.ensures
          (record { whole = c.in_ok-put_ends.ensures.whole; clean = c.in_ok-put_ends.ensures.clean }),
      subst (λ (es : List End). IsWitnessed o es (g.T.Sink.state c.args.page.now) (g.T.Sink.state c.put_witness.new.page) c.args.asked.now.witness) c.deref-2.ensures.value c.in_ok-put_witness.ensures,
    )
