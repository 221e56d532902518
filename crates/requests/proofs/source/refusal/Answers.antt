use Rattle.std.proofs.Common.{◌∙◌, ap, sym, true≢false}
use Rattle.requests.specs.Sources.{is_no_memory}
use Rattle.requests.proofs.source.refusal.Goals as goal

pub returns : goal.returns
returns c =
    let known = sym c.is_no_memory.ensures ∙ c.if-is_no_memory.false in
    (c.utf8.source, c.requires (λ e. true≢false (sym (ap is_no_memory e) ∙ known)), c.line_numbered.ensures)
