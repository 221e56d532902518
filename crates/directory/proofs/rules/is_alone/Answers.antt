use Rattle.std.proofs.Common.{◌∙◌}
use Rattle.words.specs.Harts.{names}
use Rattle.directory.proofs.Alone.{is_alone-empty}
use Rattle.directory.proofs.rules.is_alone.Goals as goal

pub returns : goal.returns
returns c = is_alone-empty c.args.hart (names c.args.sharers.now) c.args.harts (names c.remove.new.self) c.is_empty.result c.remove.ensures.this
    (λ h apart. c.remove.ensures.others h apart ∙ c.below-others.ensures h) c.is_empty.ensures
