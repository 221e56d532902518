use Rattle.std.proofs.Common.{not, sym, ap, ◌∙◌}
use Rattle.statements.specs.Cutting.{trim}
use Rattle.statements.specs.Operands as source
use Rattle.statements.specs.Places.{find_in}
use Rattle.statements.proofs.Pieces.{none_more, some_more, not_first}
use Rattle.statements.proofs.statement.+all_found.Goals as goal

pub returns-then-is_lost : goal.returns-then-is_lost
returns-then-is_lost t c =
    not_first (λ operand. not (source.is_lost (find_in c.args.names.now) (trim operand))) c.args.text.now _ _ c.cut.ensures.cut
    (ap not (ap (source.is_lost (find_in c.args.names.now)) (sym c.trim.ensures.trimmed) ∙ sym c.is_lost.ensures ∙ c.if-is_lost.true))

pub returns-in-Some : goal.returns-in-Some
returns-in-Some t c =
    c.all_found.ensures
    ∙ some_more (λ operand. not (source.is_lost (find_in c.args.names.now) (trim operand))) c.args.text.now _ _ (rw c.in-Some.is at c.cut.ensures.cut)
    (ap not (ap (source.is_lost (find_in c.args.names.now)) (sym c.trim.ensures.trimmed) ∙ sym c.is_lost.ensures ∙ c.if-is_lost.false))

pub returns-in-None : goal.returns-in-None
returns-in-None t c =
    none_more (λ operand. not (source.is_lost (find_in c.args.names.now) (trim operand))) c.args.text.now _ (rw c.in-None.is at c.cut.ensures.cut)
    (ap not (ap (source.is_lost (find_in c.args.names.now)) (sym c.trim.ensures.trimmed) ∙ sym c.is_lost.ensures ∙ c.if-is_lost.false))
