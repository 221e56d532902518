use Rattle.std.proofs.Common.{◌*◌, length, ap, ◌∙◌}
use Rattle.words.specs.Limits.{block_bytes}
use Rattle.machine.specs.States.{State, shown, geometry}
use Rattle.machine.proofs.Reading.{same_setting}
use Rattle.machine.proofs.machine.Machine.size.Goals as goal

pub returns-clause-flat : goal.returns-clause-flat
returns-clause-flat g c = λ f b.
    ap (λ n. block_bytes * n) (c.blocks-2.ensures.value ∙ ap (λ (m : State). length m.directory.memory) c.self.view_is)
    ∙ ap (λ s. s.size) (same_setting (geometry g.row.SETS g.row.WAYS) f (shown g.row.SETS c.args.self.now) b)
