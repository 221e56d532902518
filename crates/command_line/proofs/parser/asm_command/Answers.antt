use Rattle.command_line.specs.Command.{IsApp}
use Rattle.command_line.proofs.parser.asm_command.Goals as goal

pub returns : goal.returns
returns c =
    let start : IsApp c.bare.result _ = record { shape = c.bare.ensures.app; local = c.bare.ensures.local } in
    c.with_required.ensures _ (c.with_required-command.ensures _ start)
