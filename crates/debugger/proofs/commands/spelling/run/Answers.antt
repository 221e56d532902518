use Rattle.std.proofs.Common.{rules, ◌≡◌, ◌∙◌}
use Rattle.std.specs.Option.{option_map}
use Rattle.debugger.specs.declared.commands.command.Command.TheVariants as command
use Rattle.debugger.specs.Spelling.{one, words_in}
use Rattle.debugger.proofs.Words.{run_told}
use Rattle.debugger.proofs.commands.spelling.run.Goals as goal

pub returns-in-Some : goal.returns-in-Some
returns-in-Some c =
    let number : c.map.result ≡ option_map command.Run (one (words_in c.args.words)) = search rules in
    number ∙ run_told c.args.words c.in-Some.field-0 c.in-Some.is
