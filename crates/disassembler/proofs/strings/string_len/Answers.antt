use Rattle.std.proofs.Common.{◌==◌}
use Rattle.disassembler.proofs.Fronts.{length-none, place-some}
use Rattle.disassembler.proofs.strings.string_len.Goals as goal

pub returns-in-Some : goal.returns-in-Some
returns-in-Some c = place-some (λ x. x == 0) c.args.text.now c.in-Some.place c.in-Some.ensures

pub returns-in-None : goal.returns-in-None
returns-in-None c = length-none (λ x. x == 0) c.args.text.now c.in-None.ensures
