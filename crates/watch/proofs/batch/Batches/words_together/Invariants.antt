use Rattle.std.proofs.Common.{◌≡◌, ◌-◌, ◌≤◌, ◌*◌, get_or}
use Rattle.watch.specs.Runs.{sum_below, words_of}
use Rattle.watch.proofs.batch.Batches.words_together.Given as goal

-- the words of the first harts
abbrev pub invariant-loop-i : goal.invariant-loop-i
invariant-loop-i l = (l.words ≡ sum_below l.i (λ h. words_of (get_or l.self.bits h 0) - l.begun)) × (l.words ≤ l.i * 4095)
