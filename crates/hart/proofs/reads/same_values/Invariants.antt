use Rattle.std.proofs.Common.{◌≡◌, ◌<◌, ◌↔◌, ℕ}
use Rattle.std.specs.Prelude.{IsTrue, slice_index}
use Rattle.hart.proofs.reads.same_values.Given as goal

-- they are the same so far
abbrev pub invariant-loop-number : goal.invariant-loop-number
invariant-loop-number l = IsTrue l.same ↔ ((k : ℕ) → k < l.number → slice_index l.a k ≡ slice_index l.b k)
