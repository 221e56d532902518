use Rattle.std.proofs.Common.{sym, ◌∙◌}
use Rattle.statements.proofs.Blanks.{trimmed_blank, trimmed_kept}
use Rattle.statements.proofs.text.+trim_end.Goals as goal

pub returns-in-len1-up-clause-trimmed : goal.returns-in-len1-up-clause-trimmed
returns-in-len1-up-clause-trimmed t c = c.trim_end.ensures.trimmed ∙ trimmed_blank c.args.text.now c.in-len1-up.len_at_least (sym c.is_blank.ensures ∙ c.if-is_blank.true)

pub returns-in_default-2-clause-trimmed : goal.returns-in_default-2-clause-trimmed
returns-in_default-2-clause-trimmed t c = trimmed_kept c.args.text.now c.in-len1-up.len_at_least (sym c.is_blank.ensures ∙ c.if-is_blank.false)
