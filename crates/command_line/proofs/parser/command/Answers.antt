use Rattle.std.proofs.Common.{subst}
use Rattle.std.proofs.lemmas.Result.{IfOk-weaker}
use Rattle.clap.specs.Words.{Rule, with_rule}
use Rattle.command_line.specs.Command as spec
use Rattle.command_line.specs.Command.{Makes}
use Rattle.command_line.proofs.parser.command.Goals as goal

pub returns : goal.returns
returns c =
    let asked = subst (λ (r : Rule). Makes c.with_argument-command.result (with_rule spec.program r)) c.version_flag.ensures.rule (c.with_argument-command.ensures spec.program c.program.ensures) in
    let version = IfOk-weaker c.with_argument-command.result _ _ (λ made is. is.shape) asked in
    let run = c.with_subcommand-command.ensures _ _ version c.run_command.ensures in
    let debug = c.with_subcommand-command-2.ensures _ _ run c.debug_command.ensures in
    let outcomes = c.with_subcommand-command-3.ensures _ _ debug c.outcomes_command.ensures in
    let dis = c.with_subcommand-command-4.ensures _ _ outcomes c.dis_command.ensures in
    c.with_subcommand.ensures _ _ dis c.asm_command.ensures
