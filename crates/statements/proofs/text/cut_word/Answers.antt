use Rattle.std.proofs.Common.{sym, ◌∙◌}
use Rattle.statements.proofs.Cuts.{word_found, word_none}
use Rattle.statements.proofs.text.cut_word.Goals as goal

pub returns-in-Some-clause-cut : goal.returns-in-Some-clause-cut
returns-in-Some-clause-cut c = word_found c.args.text.now c.in-Some.end _ (sym c.find_blank.ensures.place ∙ c.in-Some.is) c.trim_start.ensures.trimmed

pub returns-in-None-clause-cut : goal.returns-in-None-clause-cut
returns-in-None-clause-cut c = word_none c.args.text.now (sym c.find_blank.ensures.place ∙ c.in-None.is)
