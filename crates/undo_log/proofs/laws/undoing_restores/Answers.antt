use Rattle.std.proofs.Common.{◌∙◌}
use Rattle.undo_log.proofs.Restoring.{restored-push, restored-none, undone-is}
use Rattle.undo_log.proofs.laws.undoing_restores.Goals as goal

pub returns-clause-logged : goal.returns-clause-logged
returns-clause-logged c = λ rs memory b _. undone-is rs memory b

pub returns-clause-others : goal.returns-clause-others
returns-clause-others c = λ rs memory b none. undone-is rs memory b ∙ restored-none rs b (memory b) none

pub returns-clause-newest : goal.returns-clause-newest
returns-clause-newest c = λ rs r memory b. restored-push rs r b (memory b)
