use Rattle.std.proofs.Common.{◌≡◌, ◌+◌, ◌*◌, ◌∷◌, ◌++◌, [], ℕ, map, sym, ap, ◌∙◌}
use Rattle.std.specs.List.{range_with_len}
use Rattle.disassembler.specs.declared.section.Section.{Section}
use Rattle.disassembler.specs.Sections.{section_header}
use Rattle.disassembler.proofs.Runs.{map-one_more}
use Rattle.disassembler.proofs.section.sections.Goals as goal

pub loop-i-preserved : goal.loop-i-preserved
loop-i-preserved c =
    let f : ℕ → Section = λ i. section_header c.args.bytes.now (c.headers_offset-offset.result + 40 * i) in
    c.in_ok-push.ensures.items ∙ ap (λ l. l ++ c.read.result ∷ []) c.loop-i.invariant ∙ ap (λ h. map f (range_with_len 0 c.loop-i.i) ++ h ∷ []) c.read.ensures ∙ sym (map-one_more f c.loop-i.i)
