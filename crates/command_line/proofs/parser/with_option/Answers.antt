use Rattle.clap.specs.Words.{Rule, with_rule}
use Rattle.std.proofs.Common.{subst}
use Rattle.command_line.specs.Command.{Makes}
use Rattle.command_line.proofs.parser.with_option.Goals as goal

pub returns : goal.returns
returns c = λ app is. subst (λ (r : Rule). Makes c.with_argument.result (with_rule app r)) c.option.ensures.rule (c.with_argument.ensures app is)
