use Rattle.board.specs.Histories.{core_steps}
use Rattle.std.proofs.Common.{refl}
use Rattle.board.proofs.Courses.{chosen_then}
use Rattle.board.proofs.journal.unkept.UnkeptJournal.note_lent.Goals as goal

pub returns-clause-noted : goal.returns-clause-noted
returns-clause-noted g c = λ es _ count told chosen. chosen_then told (core_steps c.args._hart es) chosen (_, refl)
