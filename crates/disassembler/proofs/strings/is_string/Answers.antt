use Rattle.std.proofs.Common.{List, ℕ, nat_eq, ap, ◌∙◌}
use lib.Pointwise.{pointwise}
use Rattle.disassembler.specs.Names.{string_at}
use Rattle.disassembler.proofs.Fronts.{eq-cut}
use Rattle.disassembler.proofs.strings.is_string.Goals as goal

pub returns : goal.returns
returns c =
    c.eq.ensures ∙ ap (λ (l : List ℕ). pointwise nat_eq l c.args.text.now) c.front_of.ensures.text ∙ eq-cut (string_at c.args.strings.now c.args.at) c.args.text.now
