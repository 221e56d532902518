use Rattle.assembler.proofs.Answering.{one_program}
use Rattle.assembler.proofs.laws.sources_spell_one_program.Goals as goal

pub returns : goal.returns
returns c = one_program
