use Rattle.std.proofs.Common.{◌∙◌, None, refl}
use Rattle.clap.specs.Words.{found_of}
use Rattle.clap.proofs.WalkLemmas.{first_value-rows}
use Rattle.command_line.specs.Reading.{seed_of}
use Rattle.command_line.specs.declared.argument.Argument.TheVariants as argument
use Rattle.command_line.proofs.Values.{option_read}
use Rattle.command_line.proofs.reading.seed_given.Goals as goal

pub returns-in-Some : goal.returns-in-Some
returns-in-Some c =
    option_read argument.Seed seed_of None _ c.in-Some.text c.seed_named.result c.ok_or.result
    (c.in-Some.ensures ∙ first_value-rows (found_of c.args.matches.now) c.args.id.now) c.seed_named.ensures c.ok_or.ensures.value

pub returns-in-None : goal.returns-in-None
returns-in-None c = rw (← first_value-rows (found_of c.args.matches.now) c.args.id.now, ← c.in-None.ensures) refl
