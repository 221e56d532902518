use Rattle.std.proofs.Common.{◌∙◌, ◌-◌, refl, sym, lit<}
use Rattle.std.proofs.lemmas.Iterator.Consumers.{nth_from_yields_List}
use Rattle.std.proofs.lemmas.Iterator.Splits.{YieldsList-from_str_split}
use Rattle.requests.proofs.Quoting.{numbered}
use Rattle.requests.proofs.quote.line_numbered.Goals as goal

pub returns-then-number-eq0 : goal.returns-then-number-eq0
returns-then-number-eq0 c = rw c.if-number-eq0.true refl

pub returns : goal.returns
returns c =
    nth_from_yields_List c.nth.result _ (c.args.number - 1) c.nth.ensures.ran (YieldsList-from_str_split 10 c.args.source.now (lit< tt) c.split.ensures.text c.split.ensures.has_more c.split.ensures.pattern)
    ∙ sym (numbered c.args.number c.args.source.now c.if-number-eq0.false)
