use Rattle.std.proofs.Common.{ℕ, inl, inr, refl, subst}
use Rattle.std.proofs.lemmas.Result.{err_from_is_err_and}
use Rattle.words.specs.Sinks.{TookAll, TookPart}
use Rattle.simulate.specs.Counted.{counts_part}
use Rattle.simulate.proofs.steps.put_end.Goals as goal

-- a put of the report failed
pub returns-in_err-status : goal.returns-in_err-status
returns-in_err-status g c =
    let p = err_from_is_err_and c.from_residual.result c.from_residual.ensures.1 in
    rw (p.1, p.2) (inl c.in_err-status.ensures)

-- a put of the counts failed
pub returns-in_err-put_counts : goal.returns-in_err-put_counts
returns-in_err-put_counts g c =
    let p = err_from_is_err_and c.from_residual-in_err-put_counts.result c.from_residual-in_err-put_counts.ensures.1 in
    let part : TookPart (g.O.Sink.state c.conclude.new.sink) (g.O.Sink.state c.put_counts.new.sink) (counts_part c.args.show c.args.counts.now c.harts.result) = record {
      part = c.in_err-put_counts.ensures.part;
      fault = c.in_err-put_counts.ensures.fault;
    } in
    rw (p.1, p.2) (inr (
      refl,
      (
        g.O.Sink.state c.conclude.new.sink,
        c.in_ok-status.status,
        c.in_ok-status.ensures,
        subst (λ (n : ℕ). TookPart (g.O.Sink.state c.conclude.new.sink) (g.O.Sink.state c.put_counts.new.sink) (counts_part c.args.show c.args.counts.now n)) c.harts.ensures.value part,
      ),
    ))

-- both were put
pub returns : goal.returns
returns g c =
    let took : TookAll (g.O.Sink.state c.conclude.new.sink) (g.O.Sink.state c.put_counts.new.sink) (counts_part c.args.show c.args.counts.now c.harts.result) = record {
      whole = c.in_ok-put_counts.ensures.whole;
      clean = c.in_ok-put_counts.ensures.clean;
    } in (
      g.O.Sink.state c.conclude.new.sink,
      c.in_ok-status.ensures,
      subst (λ (n : ℕ). TookAll (g.O.Sink.state c.conclude.new.sink) (g.O.Sink.state c.put_counts.new.sink) (counts_part c.args.show c.args.counts.now n)) c.harts.ensures.value took,
    )
