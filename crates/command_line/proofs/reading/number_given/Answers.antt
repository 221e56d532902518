use Rattle.std.proofs.Common.{◌∙◌, refl}
use Rattle.clap.specs.Words.{found_of}
use Rattle.clap.proofs.WalkLemmas.{first_value-rows}
use Rattle.texts.specs.Numbers.{number_of}
use Rattle.command_line.proofs.Values.{option_read}
use Rattle.command_line.proofs.reading.number_given.Goals as goal

pub returns-in-Some : goal.returns-in-Some
returns-in-Some c =
    option_read c.args.argument number_of c.args.default _ c.in-Some.text c.number.result c.ok_or.result
    (c.in-Some.ensures ∙ first_value-rows (found_of c.args.matches.now) c.args.id.now) c.number.ensures c.ok_or.ensures.value

pub returns-in-None : goal.returns-in-None
returns-in-None c = rw (← first_value-rows (found_of c.args.matches.now) c.args.id.now, ← c.in-None.ensures) refl
