-- Of which messages a line is told.
use Rattle.std.proofs.Common.{◌≡◌, ◌<◌, ◌≤◌, ℕ, true, false, cond, [], arith}
use Rattle.std.specs.Prelude.{nat_le}
use Rattle.std.proofs.lemmas.Bool.Decides.{nat_tests}
use Rattle.network.specs.declared.net.Flight.{Flight}
use Rattle.debugger.specs.Texts.{line_from, sent_line}

pub no_line : (from : ℕ) (f : Flight) → f.number < from → line_from from f ≡ []
no_line from f below = let no : nat_le from f.number ≡ false = grind (arith, nat_tests) in λ k. cond (no k) (sent_line f) []

pub its_line : (from : ℕ) (f : Flight) → from ≤ f.number → sent_line f ≡ line_from from f
its_line from f above = let yes : true ≡ nat_le from f.number = grind (arith, nat_tests) in λ k. cond (yes k) (sent_line f) []
