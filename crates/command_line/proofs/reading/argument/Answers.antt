use Rattle.std.proofs.Common.{◌∙◌, ap, option_map, sym}
use Rattle.clap.specs.Words.{found_of}
use Rattle.clap.proofs.WalkLemmas.{first_value-rows}
use Rattle.command_line.proofs.Values.{value_is_there}
use Rattle.command_line.proofs.reading.argument.Goals as goal

pub unwrap-requires : goal.unwrap-requires
unwrap-requires c = value_is_there (found_of c.args.matches.now) c.args.id.now c.get_str.result c.get_str.ensures c.requires

pub returns : goal.returns
returns c =
    sym (first_value-rows (found_of c.args.matches.now) c.args.id.now) ∙ sym c.get_str.ensures ∙ ap (option_map (λ s. s.now)) c.unwrap.ensures
