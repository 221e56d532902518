use Rattle.std.proofs.lemmas.Result.{MatchResult-weaker}
use Rattle.assembler.proofs.Answering.{answered}
use Rattle.assembler.proofs.Layouts.{layout_is}
use Rattle.assembler.proofs.passes.assemble.Goals as goal

pub returns-clause-ok : goal.returns-clause-ok
returns-clause-ok c =
    MatchResult-weaker c.run.result c.run.ensures (λ p h. record { labels = h.0.labels; layout = h.0.layout; laid_out = layout_is c.args.source.now h.0 h.1; program = h.2 }) (λ e h. tt)

pub returns-clause-only : goal.returns-clause-only
returns-clause-only c = answered c.args.source.now c.run.result c.run.ensures
