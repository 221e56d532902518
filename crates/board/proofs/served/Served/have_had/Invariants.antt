use Rattle.std.proofs.Common.{◌<◌, ℕ}
use Rattle.board.specs.Turns.{HasHad}
use Rattle.board.proofs.served.Served.have_had.Given as goal

abbrev pub invariant-loop-number : goal.invariant-loop-number
invariant-loop-number g l = (i : ℕ) → i < l.number → HasHad l.turns l.self i
