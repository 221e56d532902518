use Rattle.std.proofs.Common.{Some, sym, ap, ◌∙◌}
use Rattle.std.specs.Option.{option_map}
use Rattle.flat.specs.State.{Tx}
use Rattle.outcomes.specs.Harts.{tx_of}
use Rattle.outcomes.proofs.hart.copy_transaction.Goals as goal

pub returns-in_ok-copy-in-Some : goal.returns-in_ok-copy-in-Some
returns-in_ok-copy-in-Some c size = ap (λ (t : Tx). Some t) (c.in_ok-copy-in-Some.ensures size) ∙ sym (ap (option_map (tx_of size)) c.in-Some.is)
