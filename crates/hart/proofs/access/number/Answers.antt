use Rattle.std.proofs.Common.{◌∙◌, ◌/◌, ◌%◌, ℕ, slice_index, ap, sym}
use Rattle.table.specs.Effects.{loaded, part_of}
use Rattle.hart.proofs.Words.{unsigned, number_in}
use Rattle.hart.proofs.access.number.Goals as goal
use Rattle.std.proofs.Common.{false}

pub returns-clause-value : goal.returns-clause-value
returns-clause-value c =
    let m = c.args.m.now in
    let content = c.args.content.now in
    c.finish_load.ensures
    ∙ ap (λ (a : ℕ). loaded false m.width (part_of (slice_index content (a / 4 % 8)) m.addr m.width)) c.index.ensures.value
    ∙ unsigned m.width _
    ∙ sym (number_in content m.addr m.width (c.fits-content (m.addr / 4 % 8)) c.requires)
