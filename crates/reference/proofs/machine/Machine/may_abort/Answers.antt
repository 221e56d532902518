use Rattle.std.proofs.Common.{◌≡◌, ℕ, true, false, subst, sym, ◌∙◌, ap}
use Rattle.std.specs.Prelude.{vec_len}
use Rattle.std.specs.Option.{option_map}
use Rattle.reference.specs.States.{hart_of, tx_of}
use Rattle.reference.specs.Machines.{flat_of, IsNextMove}
use Rattle.reference.proofs.Checked.{due_can, can_due}
use Rattle.reference.proofs.machine.Machine.may_abort.Goals as goal

pub returns-in-Some-tx-clause-yes : goal.returns-in-Some-tx-clause-yes
returns-in-Some-tx-clause-yes c given =
    let f = flat_of c.args.self.now in
    let size = vec_len c.args.self.now.memory in
    let due = c.is_due.ensures size in
    due_can f c.args.id c.args.cause.now c.next_move-next.result (hart_of size c.in-Some.hart.now) (tx_of size c.in-Some-tx.tx)
    c.in-Some.ensures.some (ap (option_map (tx_of size)) c.in-Some-tx.is)
    (subst (λ (i : ℕ). IsNextMove f i c.next_move-next.result) c.index.ensures.value c.next_move-next.ensures) (due.0 given)

pub returns-in-Some-tx-clause-no : goal.returns-in-Some-tx-clause-no
returns-in-Some-tx-clause-no c refused can =
    let f = flat_of c.args.self.now in
    let size = vec_len c.args.self.now.memory in
    let due = c.is_due.ensures size in
    let due_now : c.is_due.result ≡ true = due.1 (can_due f c.args.id c.args.cause.now c.next_move-next.result (hart_of size c.in-Some.hart.now) (tx_of size c.in-Some-tx.tx)
    c.in-Some.ensures.some (ap (option_map (tx_of size)) c.in-Some-tx.is)
    (subst (λ (i : ℕ). IsNextMove f i c.next_move-next.result) c.index.ensures.value c.next_move-next.ensures) can) in
    let both : true ≡ false = sym due_now ∙ refused in cc
