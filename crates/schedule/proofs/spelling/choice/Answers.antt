use Rattle.schedule.proofs.Words.{no_choice}
use Rattle.schedule.proofs.spelling.choice.Goals as goal

pub returns-in_default-verb : goal.returns-in_default-verb
returns-in_default-verb c =
    rw c.in-Some.ensures (no_choice c.in-Some.verb.now c.in-Some.words.now c.in_default-verb.not-core c.in_default-verb.not-evict c.in_default-verb.not-deliver)
