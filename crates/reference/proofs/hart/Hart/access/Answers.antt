use Rattle.std.proofs.Common.{◌≡◌, ◌∙◌, ℕ, Some, length, refl, sym, ap}
use Rattle.std.specs.Option.{option_map}
use Rattle.std.proofs.lemmas.Result.{on_err_weaker}
use Rattle.flat.specs.State.{Tx}
use Rattle.reference.specs.declared.hart.Hart.{Hart}
use Rattle.reference.specs.declared.hart.Transaction.{Transaction}
use Rattle.reference.specs.States.{hart_of, tx_of}
use Rattle.reference.proofs.hart.Hart.access.Goals as goal

-- a hart whose transaction is seen as before is seen as before
seen_as_before : (size : ℕ) (h : Hart) (old new : Transaction) → h.tx ≡ Some old → tx_of size new ≡ tx_of size old → hart_of size (record h { tx = Some new }) ≡ hart_of size h
seen_as_before size h old new is e = λ k. record (hart_of size h) { tx = (ap (λ (t : Tx). Some t) e ∙ sym (ap (option_map (tx_of size)) is)) k }

pub returns-in-Some-clause-err : goal.returns-in-Some-clause-err
returns-in-Some-clause-err c =
    on_err_weaker c.access.result
    (λ same. (seen_as_before (length c.args.memory.now) c.args.self.now c.in-Some.tx c.access.new.self c.in-Some.is (same (length c.args.memory.now)), refl))
    c.access.ensures.err
