use Rattle.std.proofs.Common.{Ok, sym, ap, ◌∙◌, option_map}
use Rattle.std.proofs.lemmas.Result.{err_from_is_err_and}
use Rattle.statements.specs.Places.{find_in}
use Rattle.statements.proofs.Pieces.{data_fault, data_last, data_more}
use Rattle.statements.proofs.statement.+push_data.Goals as goal

pub returns-in_err-datum : goal.returns-in_err-datum
returns-in_err-datum t c =
    let p = err_from_is_err_and c.from_residual.result c.from_residual.ensures.1 in
    rw (p.1, p.2) (data_fault _ _ _ c.args.text.now _ _ _ c.cut.ensures.cut (rw (← c.trim.ensures.trimmed, ← c.datum.ensures) c.in_err-datum.was))

pub returns-in-Some : goal.returns-in-Some
returns-in-Some t c =
    let more = data_more (option_map (λ n. find_in n.now) c.args.names) c.args.width c.args.values.now.items c.args.text.now c.cut.result.0.now c.in-Some.others.now c.in_ok-datum.field-0 (rw c.in-Some.is at c.cut.ensures.cut) (rw (← c.trim.ensures.trimmed, ← c.datum.ensures) c.in_ok-datum.was) in
    rw (more, ← c.push.ensures.items) c.push_data.ensures

pub returns-in-None : goal.returns-in-None
returns-in-None t c =
    data_last _ _ c.args.values.now.items c.args.text.now _ _ (rw c.in-None.is at c.cut.ensures.cut) (rw (← c.trim.ensures.trimmed, ← c.datum.ensures) c.in_ok-datum.was) ∙ ap Ok (sym c.push.ensures.items)
