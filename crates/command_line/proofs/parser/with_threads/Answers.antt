use Rattle.std.proofs.Common.{codes, subst}
use Rattle.clap.specs.Words.{Rule, with_rule}
use Rattle.command_line.specs.Command as spec
use Rattle.command_line.specs.Command.{Makes, with_rules}
use Rattle.command_line.proofs.parser.with_threads.Goals as goal

pub returns : goal.returns
unfolding with_rules
returns c = λ app is.
    let one = with_rule app (spec.flag_named (codes "threads")) in
    let two = with_rule one (spec.option_named (codes "history")) in
    let threads = subst (λ (r : Rule). Makes c.with_argument-command.result (with_rule app r)) c.flag.ensures.rule (c.with_argument-command.ensures app is) in
    let history = c.with_option-command.ensures one threads in
    subst (λ (r : Rule). Makes c.with_argument.result (with_rule two r)) c.words.ensures.rule (c.with_argument.ensures two history)
