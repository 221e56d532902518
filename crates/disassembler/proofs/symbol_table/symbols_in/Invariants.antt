use Rattle.std.proofs.Common.{◌≡◌, ◌*◌}
use Rattle.std.specs.List.{flat_map, range_with_len}
use Rattle.std.specs.Option.{option_to_list}
use Rattle.disassembler.specs.Tables.{entry_at, symbol_of}
use Rattle.disassembler.proofs.symbol_table.symbols_in.Given as goal

-- the symbols of so many entries
abbrev pub invariant-loop-i : goal.invariant-loop-i
invariant-loop-i l = l.symbols.items ≡ flat_map (λ i. option_to_list (symbol_of l.sections l.strings (entry_at l.entries (16 * i)))) (range_with_len 0 l.i)
