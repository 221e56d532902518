use Rattle.command_line.specs.Command.{with_rules}
use Rattle.command_line.proofs.parser.with_limits.Goals as goal

pub returns : goal.returns
unfolding with_rules
returns c = λ app is. c.with_option.ensures _ (c.with_option-command.ensures app is)
