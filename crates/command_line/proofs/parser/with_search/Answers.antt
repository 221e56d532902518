use Rattle.std.proofs.Common.{codes, subst}
use Rattle.clap.specs.Words.{Rule, with_rule}
use Rattle.command_line.specs.Command as spec
use Rattle.command_line.specs.Command.{Makes, with_rules}
use Rattle.command_line.proofs.parser.with_search.Goals as goal

pub returns : goal.returns
unfolding with_rules
returns c = λ app is.
    let one = with_rule app (spec.option_named (codes "states")) in
    let two = with_rule one spec.witness in
    let states = c.with_option-command.ensures app is in
    let witness = subst (λ (r : Rule). Makes c.with_argument-command.result (with_rule one r)) c.witness.ensures.rule (c.with_argument-command.ensures one states) in
    subst (λ (r : Rule). Makes c.with_argument.result (with_rule two r)) c.words.ensures.rule (c.with_argument.ensures two witness)
