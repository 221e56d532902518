use Rattle.simulate.proofs.SessionsByHand.{by_hand_once}
use Rattle.simulate.proofs.laws.sessions_by_hand_are_one.Goals as goal

pub returns : goal.returns
returns g c = λ geometry bytes setup file prompt lines i j k l told_before told_after asked_before asked_after told_earlier told_later asked_earlier asked_later known left left_too one other.
    by_hand_once geometry _ g.I.LineInput.gives bytes setup file prompt lines i j k l told_before told_after asked_before asked_after told_earlier told_later asked_earlier asked_later known left left_too one other
