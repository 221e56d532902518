use Rattle.std.proofs.Common.{◌∙◌, ap, is_some, sym}
use Rattle.words.specs.declared.message.Kind.TheVariants.{Write}
use Rattle.hart.specs.Shown.{shown_line}
use Rattle.machine.specs.States.{shown}
use Rattle.watch.specs.Kinds.{kind_asked}
use Rattle.watch.proofs.Requests.{some_mapped}
use Rattle.watch.proofs.asking.kind_asked.Goals as goal

pub returns-in-Write : goal.returns-in-Write
returns-in-Write g c =
    let lines = c.is_some-has_line.ensures ∙ sym (some_mapped shown_line c.line.result) ∙ ap is_some c.line.ensures.value in
    c.of_request.ensures ∙ ap (kind_asked Write) lines ∙ (λ k. kind_asked (sym c.in-Write.is k) (is_some (((shown g.row.SETS c.args.machine.now).harts c.args.id).lines c.args.block)))
