use Rattle.std.proofs.Common.{None, sym, ap, subst, ◌∙◌}
use Rattle.std.specs.Option.{option_map}
use Rattle.words.specs.declared.entry.Step.TheVariants.{Deliver}
use Rattle.protocol.specs.Messages.{shown as shown_message}
use Rattle.machine.specs.Making.{MakesStep}
use Rattle.machine.specs.States.{State, geometry, IsSound}
use Rattle.machine.specs.Mail.{in_flight}
use Rattle.machine.proofs.Deliveries.{arrives_none}
use Rattle.machine.proofs.machine.Machine.deliver.Goals as goal
use Rattle.machine.proofs.machine.Machine.deliver.Goals.{in-Grant, in-PutAck, in-Ack, in-Nack, in-Get+in_ok-get_arrives-in-Get, in-Put, in-Done}

pub returns-in_default-clause-steps : goal.returns-in_default-clause-steps
returns-in_default-clause-steps g c =
    arrives_none g.row.SETS g.row.WAYS c.args.number c.args.self.now (subst (IsSound g.row.SETS g.row.WAYS) c.self.view_is c.self.invariant)
    (ap (λ (m : State). in_flight m.flights c.args.number) (sym c.self.view_is) ∙ ap (option_map shown_message) (sym c.in_default.ensures))

pub returns-clause-steps : goal.returns-clause-steps
returns-clause-steps g c =
    let made = λ (w : State). MakesStep (geometry g.row.SETS g.row.WAYS) c.args.self.now (Deliver c.args.number) None w in
    elim c.match-message.branch [
      | in-Grant w ↦ subst made (sym w.self-is) w.grant_arrives.ensures
      | in-PutAck w ↦ subst made (sym w.self-is) w.put_ack_arrives.ensures
      | in-Ack w ↦ subst made (sym w.self-is) w.ack_arrives.ensures
      | in-Nack w ↦ subst made (sym w.self-is) w.nack_arrives.ensures
      | in-Get+in_ok-get_arrives-in-Get w ↦ subst made (sym w.self-is) w.in_ok-get_arrives-in-Get.ensures.steps
      | in-Put w ↦ subst made (sym w.self-is) w.put_arrives.ensures
      | in-Done w ↦ subst made (sym w.self-is) w.done_arrives.ensures
    ]
