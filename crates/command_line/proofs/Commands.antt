-- A command as it grows by its arguments and subcommands.
use Rattle.std.proofs.Common.{◌≡◌, ◌∙◌, ◌||◌, [], Bool, false, Result, IfOk, ap, ap₂}
use Rattle.std.specs.declared.alloc.AllocError.{AllocError}
use Rattle.std.proofs.lemmas.Result.{IfOk-weaker}
use Rattle.clap.specs.Words.{AddsArg, AddsSubcommand, App, Shape, app_of, rule_of, with_rule, with_subcommand}
use Rattle.clap.specs.declared.builder.arg.Arg.{Arg}
use Rattle.clap.specs.declared.builder.command.Command.{Command}
use Rattle.command_line.specs.Command.{IsApp, Makes}

-- one more argument that is not global
pub more_arguments : (old : Command) (a : Arg) (made : Result Command AllocError) (app : App) → a.global ≡ false
    → IfOk made (λ new. AddsArg old a new) → IsApp old app → Makes made (with_rule app (rule_of a))
more_arguments old a made app local adds is = IfOk-weaker made _ _
    (λ new more. record {
      shape = more.shape local ∙ ap (λ b. with_rule b (rule_of a)) is.shape;
      local = more.globals ∙ ap₂ (λ (x y : Bool). x || y) is.local local;
    }) adds

-- one more subcommand
pub more_subcommands : (old sub : Command) (made : Result Command AllocError) (app : App) (shape : Shape)
    → IfOk made (λ new. AddsSubcommand old sub new) → app_of old ≡ app → IsApp sub (record { top = shape; subs = [] })
    → IfOk made (λ new. app_of new ≡ with_subcommand app shape)
more_subcommands old sub made app shape adds is one = IfOk-weaker made _ _
    (λ new more. more.shape one.local ∙ ap₂ with_subcommand is (ap (λ (b : App). b.top) one.shape)) adds
