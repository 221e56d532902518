use Rattle.debugger.proofs.OneSession.{lines_once, debugged_once}
use Rattle.debugger.proofs.laws.sessions_are_one.Goals as goal

pub returns-clause-lines : goal.returns-clause-lines
returns-clause-lines g c = λ geometry names bytes prompt file n v w x y known twins left left_too one other.
    lines_once geometry names _ g.I.LineInput.gives bytes prompt file n v w x y known twins left left_too one other

pub returns-clause-ends : goal.returns-clause-ends
returns-clause-ends g c = λ geometry names bytes prompt file v w i j k l told_before told_after told_earlier told_later asked_before asked_after asked_earlier asked_later known twins left left_too one other.
    debugged_once geometry names _ g.I.LineInput.gives bytes prompt file v w i j k l told_before told_after told_earlier told_later asked_before asked_after asked_earlier asked_later known twins left left_too one other
