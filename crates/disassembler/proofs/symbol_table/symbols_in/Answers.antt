use Rattle.std.proofs.Common.{◌≡◌, ◌+◌, ◌*◌, ◌++◌, ℕ, List, sym, ap, ◌∙◌}
use Rattle.std.specs.List.{flat_map, range_with_len}
use Rattle.std.specs.Option.{option_to_list}
use Rattle.disassembler.specs.declared.symbol.Symbol.{Symbol}
use Rattle.disassembler.specs.Tables.{entry_at, symbol_of}
use Rattle.disassembler.proofs.Runs.{flat_map-one_more}
use Rattle.disassembler.proofs.symbol_table.symbols_in.Goals as goal

pub loop-i-preserved : goal.loop-i-preserved
loop-i-preserved c =
    let sections = c.args.sections.now in
    let strings = c.args.strings.now in
    let text : ℕ → List Symbol = λ i. option_to_list (symbol_of sections strings (entry_at c.args.entries.now (16 * i))) in
    let one = c.symbol_of.ensures ∙ ap (symbol_of sections strings) c.read-entry.ensures in
    c.in_ok-add.ensures ∙ ap (λ l. l ++ option_to_list c.symbol_of.result) c.loop-i.invariant ∙ ap (λ o. flat_map text (range_with_len 0 c.loop-i.i) ++ option_to_list o) one ∙ sym (flat_map-one_more text c.loop-i.i)
