use Rattle.std.proofs.Common.{sym, ◌∙◌}
use Rattle.statements.proofs.Cuts.{cut_found, cut_none}
use Rattle.statements.proofs.text.cut.Goals as goal

pub returns-in-Some-clause-cut : goal.returns-in-Some-clause-cut
returns-in-Some-clause-cut c = sym (cut_found _ c.args.text.now c.in-Some.end (sym c.find_byte.ensures.place ∙ c.in-Some.is))

pub returns-in-None-clause-cut : goal.returns-in-None-clause-cut
returns-in-None-clause-cut c = sym (cut_none _ c.args.text.now (sym c.find_byte.ensures.place ∙ c.in-None.is))
