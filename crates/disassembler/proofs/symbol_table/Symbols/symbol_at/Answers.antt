use Rattle.std.proofs.Common.{◌≡◌, nat_lt, if◌then◌else◌, Some, None, ap, ◌∙◌}
use Rattle.std.specs.Option.{option_and_then}
use Rattle.disassembler.specs.declared.symbol.Symbol.{Symbol}
use Rattle.disassembler.specs.Names.{nearest}
use Rattle.disassembler.specs.Tables.{Table}
use Rattle.disassembler.proofs.Nearest.{nearest-in_order}
use Rattle.disassembler.proofs.symbol_table.Symbols.symbol_at.Goals as goal

pub returns : goal.returns
returns c =
    let a = c.args.address in
    let found : c.nearest.result ≡ nearest c.args.self.now.symbols a =
    c.nearest.ensures ∙ ap (λ l. nearest l a) c.deref.ensures.value ∙ nearest-in_order c.self.inside.symbols.items c.self.inside.rising.items a c.self.invariant
    ∙ ap (λ (t : Table). nearest t.symbols a) c.self.view_is in
    c.reaching.ensures ∙ ap (option_and_then (λ (s : Symbol). if nat_lt a s.end then Some s else None)) found
