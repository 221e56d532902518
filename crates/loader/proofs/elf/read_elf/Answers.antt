use Rattle.loader.proofs.Reading.{is_elf, is_read, was_found}
use Rattle.loader.proofs.elf.read_elf.Goals as goal

pub returns-clause-ok : goal.returns-clause-ok
returns-clause-ok c = is_elf c.args.bytes.now c.load.result c.load.ensures.ok

pub returns-clause-only : goal.returns-clause-only
returns-clause-only c = λ p elf. is_read c.args.bytes.now c.load.result c.load.ensures.ok c.load.ensures.fault p elf

pub returns-clause-fault : goal.returns-clause-fault
returns-clause-fault c = was_found c.args.bytes.now c.load.result c.load.ensures.fault
