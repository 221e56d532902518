use Rattle.board.proofs.PlayedAgain.{machine_again, entries_again}
use Rattle.board.proofs.laws.a_history_makes_its_machine.Goals as goal

pub returns-clause-machine : goal.returns-clause-machine
returns-clause-machine c = λ g p n size choices es m first w ms course starts unused follows. machine_again g p n size choices es m first w ms course starts unused follows

pub returns-clause-entries : goal.returns-clause-entries
returns-clause-entries c = λ g p n size choices es m first w ms course starts unused follows. entries_again g p n size choices es m first w ms course starts unused follows
