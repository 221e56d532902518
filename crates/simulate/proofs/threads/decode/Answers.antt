use Rattle.std.proofs.Common.{List, subst}
use Rattle.table.specs.Program.{Segment}
use Rattle.table.specs.Slots.{AreWordsOf}
use Rattle.simulate.proofs.threads.decode.Goals as goal

pub invariant_of-result : goal.invariant_of-result
invariant_of-result c = record { same = subst (λ (s : List Segment). AreWordsOf s c.in_ok-words.words.base c.in_ok-words.words.slots.items) c.segments.ensures.value c.in_ok-words.ensures }
