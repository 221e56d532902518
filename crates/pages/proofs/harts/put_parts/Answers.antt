use Rattle.std.proofs.Common.{◌++◌, ◌∙◌, Ok, ap}
use Rattle.std.specs.Option.{option_map}
use Rattle.texts.proofs.Putting.{puts-both, puts-cut, puts-same}
use Rattle.table.specs.Program.{word_at}
use Rattle.disassembler.specs.Labels.{label}
use Rattle.machine.specs.Reads.{info_of}
use Rattle.machine.specs.States.{shown}
use Rattle.pages.specs.Harts.{progress_text, waits_text, transaction_text, registers_text, cache_text}
use Rattle.pages.specs.Names.{name_text}
use Rattle.pages.proofs.harts.put_parts.Goals as goal

pub returns-in_err-put_progress : goal.returns-in_err-put_progress
returns-in_err-put_progress g c =
    let m = c.args.machine.now in
    let h = (shown g.row.SETS m).harts c.args.hart in
    let word = c.word.ensures ∙ ap (λ s. word_at s c.args.pc) c.text.ensures.value in
    puts-cut (name_text (label c.args.names.now c.args.pc) ++ (waits_text (option_map (λ r. r.block) h.request) ++ (transaction_text (option_map info_of h.tx) ++ (registers_text c.args.regs.now ++ cache_text g.row.SETS m c.args.hart))))
    c.in_err-put_progress.was (puts-same (ap (progress_text c.args.hart c.args.pc c.args.status) word) c.put_progress.ensures) c.from_residual.ensures.0

pub returns-in_err-put_name : goal.returns-in_err-put_name
returns-in_err-put_name g c =
    let m = c.args.machine.now in
    let h = (shown g.row.SETS m).harts c.args.hart in
    let word = c.word.ensures ∙ ap (λ s. word_at s c.args.pc) c.text.ensures.value in
    puts-both (puts-same {r = Ok tt} (ap (progress_text c.args.hart c.args.pc c.args.status) word) c.in_ok-put_progress.ensures)
    (puts-cut (waits_text (option_map (λ r. r.block) h.request) ++ (transaction_text (option_map info_of h.tx) ++ (registers_text c.args.regs.now ++ cache_text g.row.SETS m c.args.hart)))
    c.in_err-put_name.was (puts-same (ap name_text (c.as_bytes.ensures ∙ c.label.ensures.text)) c.put_name.ensures) c.from_residual-in_err-put_name.ensures.0)

pub returns-in_err-put_waits : goal.returns-in_err-put_waits
returns-in_err-put_waits g c =
    let m = c.args.machine.now in
    let h = (shown g.row.SETS m).harts c.args.hart in
    let word = c.word.ensures ∙ ap (λ s. word_at s c.args.pc) c.text.ensures.value in
    puts-both (puts-same {r = Ok tt} (ap (progress_text c.args.hart c.args.pc c.args.status) word) c.in_ok-put_progress.ensures)
    (puts-both (puts-same {r = Ok tt} (ap name_text (c.as_bytes.ensures ∙ c.label.ensures.text)) c.in_ok-put_name.ensures)
    (puts-cut (transaction_text (option_map info_of h.tx) ++ (registers_text c.args.regs.now ++ cache_text g.row.SETS m c.args.hart))
    c.in_err-put_waits.was (puts-same (ap waits_text c.waits_for.ensures) c.put_waits.ensures) c.from_residual-in_err-put_waits.ensures.0))

pub returns-in_err-put_transaction : goal.returns-in_err-put_transaction
returns-in_err-put_transaction g c =
    let m = c.args.machine.now in
    let word = c.word.ensures ∙ ap (λ s. word_at s c.args.pc) c.text.ensures.value in
    puts-both (puts-same {r = Ok tt} (ap (progress_text c.args.hart c.args.pc c.args.status) word) c.in_ok-put_progress.ensures)
    (puts-both (puts-same {r = Ok tt} (ap name_text (c.as_bytes.ensures ∙ c.label.ensures.text)) c.in_ok-put_name.ensures)
    (puts-both (puts-same {r = Ok tt} (ap waits_text c.waits_for.ensures) c.in_ok-put_waits.ensures)
    (puts-cut (registers_text c.args.regs.now ++ cache_text g.row.SETS m c.args.hart)
    c.in_err-put_transaction.was (puts-same (ap transaction_text c.tx.ensures) c.put_transaction.ensures) c.from_residual-in_err-put_transaction.ensures.0)))

pub returns-in_err-put_registers : goal.returns-in_err-put_registers
returns-in_err-put_registers g c =
    let m = c.args.machine.now in
    let word = c.word.ensures ∙ ap (λ s. word_at s c.args.pc) c.text.ensures.value in
    puts-both (puts-same {r = Ok tt} (ap (progress_text c.args.hart c.args.pc c.args.status) word) c.in_ok-put_progress.ensures)
    (puts-both (puts-same {r = Ok tt} (ap name_text (c.as_bytes.ensures ∙ c.label.ensures.text)) c.in_ok-put_name.ensures)
    (puts-both (puts-same {r = Ok tt} (ap waits_text c.waits_for.ensures) c.in_ok-put_waits.ensures)
    (puts-both (puts-same {r = Ok tt} (ap transaction_text c.tx.ensures) c.in_ok-put_transaction.ensures)
    (puts-cut (cache_text g.row.SETS m c.args.hart) c.in_err-put_registers.was c.put_registers.ensures c.from_residual-in_err-put_registers.ensures.0))))

pub returns : goal.returns
returns g c =
    let word = c.word.ensures ∙ ap (λ s. word_at s c.args.pc) c.text.ensures.value in
    puts-both (puts-same {r = Ok tt} (ap (progress_text c.args.hart c.args.pc c.args.status) word) c.in_ok-put_progress.ensures)
    (puts-both (puts-same {r = Ok tt} (ap name_text (c.as_bytes.ensures ∙ c.label.ensures.text)) c.in_ok-put_name.ensures)
    (puts-both (puts-same {r = Ok tt} (ap waits_text c.waits_for.ensures) c.in_ok-put_waits.ensures)
    (puts-both (puts-same {r = Ok tt} (ap transaction_text c.tx.ensures) c.in_ok-put_transaction.ensures)
    (puts-both c.in_ok-put_registers.ensures c.put_cache.ensures))))
