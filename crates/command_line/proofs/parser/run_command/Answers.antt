use Rattle.command_line.specs.Command.{IsApp, with_rules}
use Rattle.command_line.proofs.parser.run_command.Goals as goal

pub returns : goal.returns
unfolding with_rules
returns c =
    let start : IsApp c.bare.result _ = record { shape = c.bare.ensures.app; local = c.bare.ensures.local } in
    c.with_threads.ensures _ (c.with_views-command.ensures _ (c.with_choosers-command.ensures _ (c.with_limits-command.ensures _ (c.with_machine-command.ensures _ start))))
