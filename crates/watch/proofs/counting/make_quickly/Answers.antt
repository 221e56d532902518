use Rattle.std.proofs.Common.{sym, subst}
use Rattle.std.specs.Prelude.{IsTrue}
use Rattle.words.specs.declared.entry.Step.{Step}
use Rattle.machine.specs.States.{geometry}
use Rattle.watch.specs.Runs.{MakesCounted}
use Rattle.watch.proofs.counting.make_quickly.Goals as goal

pub returns-in-Core-clause-made : goal.returns-in-Core-clause-made
returns-in-Core-clause-made g c =
    subst (λ (s : Step). IsTrue c.make_plain.result → MakesCounted (geometry g.row.SETS g.row.WAYS) c.args.machine.now s c.make_plain.new.machine c.args.tally.now c.make_plain.new.tally) (sym c.in-Core.is) c.make_plain.ensures.made
