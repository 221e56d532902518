use Rattle.std.proofs.Common.{ap, ap₂, ◌∙◌}
use Rattle.texts.specs.Numbers.{number_of}
use Rattle.command_line.specs.Mixes.{mix_from}
use Rattle.command_line.proofs.mix.mix_behind.Goals as goal

pub returns : goal.returns
returns c =
    let parts = c.in_ok-arrivals.ensures in
    rw parts.0 (c.mix_from.ensures ∙ ap₂ (mix_from c.args.cores) (c.number.ensures ∙ ap number_of parts.1) (c.number-2.ensures ∙ ap number_of parts.2))
