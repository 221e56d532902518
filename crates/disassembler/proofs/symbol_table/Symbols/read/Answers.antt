use Rattle.std.proofs.Common.{◌≡◌, List, Option, Some, None, IfOk, sym, ap, subst, ◌∙◌}
use Rattle.disassembler.specs.declared.section.Section.{Section}
use Rattle.disassembler.specs.Sections.{sections}
use Rattle.disassembler.specs.Tables.{Table, parts_of, table_by, table_of}
use Rattle.disassembler.proofs.symbol_table.Symbols.read.Goals as goal

pub returns-in-Some : goal.returns-in-Some
unfolding table_of
returns-in-Some c =
    let bytes = c.args.bytes.now in
    let entries = c.in-Some.entries.now in
    let strings = c.in-Some.strings.now in
    let some = λ (h : List Section). table_by h (Some (entries, strings)) in
    let parts : Some (entries, strings) ≡ parts_of bytes (sections bytes) = c.in-Some.ensures ∙ ap (parts_of bytes) (c.deref.ensures.value ∙ c.in_ok-sections.ensures) in
    let whole : some c.deref-in-Some.result.now ≡ table_of bytes = ap some (c.deref-in-Some.ensures.value ∙ c.in_ok-sections.ensures) ∙ ap (table_by (sections bytes)) parts in
    subst (λ (t : Table). IfOk c.new.result (λ s. s ≡ t)) whole c.new.ensures

pub returns : goal.returns
unfolding table_of
returns c =
    let bytes = c.args.bytes.now in
    let parts : None ≡ parts_of bytes (sections bytes) = c.in-None.ensures ∙ ap (parts_of bytes) (c.deref.ensures.value ∙ c.in_ok-sections.ensures) in
    c.none.ensures ∙ ap (table_by (sections bytes)) parts
