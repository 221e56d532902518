use Rattle.std.proofs.Common.{ap, ap₂, ◌∙◌}
use Rattle.texts.specs.Numbers.{number_of}
use Rattle.command_line.specs.Mixes.{mix_behind}
use Rattle.command_line.proofs.mix.mix_named.Goals as goal

pub returns : goal.returns
returns c =
    let parts = c.in_ok-cores.ensures in
    rw parts.0 (c.mix_behind.ensures ∙ ap₂ mix_behind (c.number.ensures ∙ ap number_of parts.1) parts.2)
