use Rattle.reference.specs.Machines.{flat_of}
use Rattle.reference.proofs.Checked.{to_carries, from_carries, if_ok}
use Rattle.reference.proofs.machine.Machine.check.Goals as goal

pub returns-in-Retire-clause-accepted : goal.returns-in-Retire-clause-accepted
returns-in-Retire-clause-accepted c =
    if_ok c.check_retire.result _ _ (λ yes p t. to_carries (flat_of c.args.self.now) (flat_of c.check_retire.new.self) c.args.entry.now _ _ _ _ _ _ c.in-Retire.is (p t)) c.check_retire.ensures.accepted

pub returns-in-Retire-clause-refused : goal.returns-in-Retire-clause-refused
returns-in-Retire-clause-refused c =
    if_ok c.check_retire.result _ _ (λ yes p t g k. p t g (from_carries (flat_of c.args.self.now) g c.args.entry.now _ _ _ _ _ _ c.in-Retire.is k)) c.check_retire.ensures.refused
