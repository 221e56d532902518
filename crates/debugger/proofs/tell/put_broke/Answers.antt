use Rattle.std.proofs.Common.{◌≡◌, ◌∙◌, ap, decimal}
use Rattle.disassembler.specs.Labels.{label}
use Rattle.texts.specs.Numerals.{hexadecimal}
use Rattle.debugger.proofs.tell.put_broke.Goals as goal

pub returns : goal.returns
returns g c =
    let hart : c.as_bytes.result.now ≡ decimal c.args.hart = c.as_bytes.ensures.value ∙ c.as_str.ensures.value ∙ c.hart_text.ensures in
    let place : c.hexadecimal.result ≡ hexadecimal c.args.pc = c.hexadecimal.ensures.digits ∙ ap hexadecimal c.value.ensures in
    let name : c.as_bytes-2.result.now ≡ label c.args.names.now c.args.pc = c.as_bytes-2.ensures ∙ c.label.ensures.text in
    rw (← hart, ← place, ← name) c.put_all.ensures
