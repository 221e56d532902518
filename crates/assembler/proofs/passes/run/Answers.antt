use Rattle.std.proofs.Common.{Ok, Err, arith}
use Rattle.std.proofs.lemmas.Result.{MatchResult-weaker}
use Rattle.assembler.proofs.Assembling.{assembled_is}
use Rattle.assembler.proofs.passes.run.Goals as goal

pub returns : goal.returns
returns c =
    rw (← c.as_bytes-source.ensures.value) (MatchResult-weaker c.finish.result c.finish.ensures
    (λ p h. (record { labels = _; layout = h.0 }, assembled_is c.as_bytes-source.result.now _ (Ok h.0) c.in_ok-sizes.ensures (omega arith) h.1, h.2))
    (λ e h fatal. assembled_is c.as_bytes-source.result.now _ (Err e) c.in_ok-sizes.ensures (omega arith) (h fatal)))
