use Rattle.std.proofs.Common.{sym, ◌∙◌}
use Rattle.loader.proofs.Clean.{IsElfOf-one}
use Rattle.loader.proofs.laws.elf_files_hold_one_program.Goals as goal

pub returns : goal.returns
returns c = λ file p q is other. IsElfOf-one file q other ∙ sym (IsElfOf-one file p is)
