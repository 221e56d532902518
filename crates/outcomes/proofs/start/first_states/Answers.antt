use Rattle.outcomes.proofs.Found.{only_one}
use Rattle.outcomes.proofs.start.first_states.Goals as goal

pub returns : goal.returns
returns c =
    let first = c.in_ok-first.first in
    let only = only_one c.new-states.result.keys c.insert.new.self.keys first c.new-states.ensures.len c.in_ok-insert.ensures.keys in
    (first, only, c.in_ok-first.ensures.within, c.in_ok-first.ensures.flat, c.in_ok-first.ensures.reserved)
