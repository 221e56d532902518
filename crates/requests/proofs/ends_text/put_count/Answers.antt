use Rattle.std.proofs.Common.{ap, sym, rules}
use Rattle.texts.proofs.Putting.{puts-same}
use Rattle.requests.specs.EndTexts.{count_text}
use Rattle.requests.proofs.ends_text.put_count.Goals as goal

pub returns-then-is_all : goal.returns-then-is_all
returns-then-is_all g c = puts-same (ap (count_text c.args.ends c.args.states) (sym c.if-is_all.true)) (search rules)

pub returns-else-is_all : goal.returns-else-is_all
returns-else-is_all g c = puts-same (ap (count_text c.args.ends c.args.states) (sym c.if-is_all.false)) (search rules)
