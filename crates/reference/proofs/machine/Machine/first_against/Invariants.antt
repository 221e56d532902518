use Rattle.std.proofs.Common.{◌≡◌, ◌≢◌, ◌<◌, ℕ, false}
use Rattle.reference.specs.Machines.{flat_of, stands_against}
use Rattle.reference.proofs.machine.Machine.first_against.Given as goal

-- no hart so far stands against it
abbrev pub invariant-loop-j : goal.invariant-loop-j
invariant-loop-j l = (k : ℕ) → k < l.j → k ≢ l.i → stands_against ((flat_of l.self).hart k).tx l.block l.stores ≡ false
