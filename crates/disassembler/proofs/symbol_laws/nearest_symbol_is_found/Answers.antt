use Rattle.disassembler.proofs.Nearest.{nearest_found}
use Rattle.disassembler.proofs.symbol_laws.nearest_symbol_is_found.Goals as goal

pub returns : goal.returns
returns c = nearest_found
