use Rattle.std.proofs.Common.{sym, ◌∙◌}
use Rattle.std.proofs.lemmas.Result.{err_from_is_err_and}
use Rattle.statements.specs.Statements.{made}
use Rattle.statements.specs.Places.{labels_of}
use Rattle.assembler.proofs.Laying.{laid, not_made, not_laid}
use Rattle.assembler.proofs.passes.write_line.Goals as goal

pub returns-in_err-words : goal.returns-in_err-words
returns-in_err-words c = λ l same image.
    let p = err_from_is_err_and c.from_residual.result c.from_residual.ensures.1 in
    rw (p.1, p.2) (λ _. not_made (labels_of c.args.names.now) c.args.line.now l c.args.progress.now c.here-here.result same c.here-here.ensures _ c.in_err-words.ensures)

pub returns-in_err-next : goal.returns-in_err-next
returns-in_err-next c = λ l same image.
    let p = err_from_is_err_and c.from_residual-in_err-next.result c.from_residual-in_err-next.ensures.1 in
    rw (p.1, p.2) (λ _. not_laid (labels_of c.args.names.now) c.args.line.now l c.args.progress.now c.here-here.result same c.here-here.ensures (made c.in_ok-words.words) _ c.in_ok-words.ensures (sym c.behind.ensures ∙ c.in_err-next.was))

pub returns : goal.returns
returns c = λ l same image.
    let w = c.in_ok-append_to.ensures in
    laid (labels_of c.args.names.now) c.args.line.now l c.args.progress.now c.here-here.result same c.here-here.ensures (made c.in_ok-words.words) c.in_ok-next.next
    c.args.image.now.text_bytes.items c.args.image.now.data_bytes.items c.append_to.new.image.text_bytes.items c.append_to.new.image.data_bytes.items w.0 c.in_ok-words.ensures (sym c.behind.ensures ∙ c.in_ok-next.was) image w.1 w.2 w.3
