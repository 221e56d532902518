use Rattle.std.proofs.Common.{Option, [], ◌∷◌, sym, subst}
use Rattle.protocol.specs.Hart.{stamp_of}
use Rattle.hart.specs.Shown.{shown_tx}
use Rattle.std.specs.Prelude.{option_to_list}
use Rattle.std.specs.Option.{option_map}
use Rattle.hart.specs.declared.reply.Asked.{Asked}
use Rattle.machine.specs.Mail.{SendsOn, mail_of}
use Rattle.machine.specs.Rows.{asking}
use Rattle.machine.proofs.step.ask.Goals as goal

pub returns-in-Some-clause-sent : goal.returns-in-Some-clause-sent
returns-in-Some-clause-sent g c =
    let old = c.args.net.now in
    let new = c.send_one.new.net in
    subst (λ (o : Option Asked). SendsOn (mail_of old.flights) old.next (option_to_list (option_map (asking c.args.from (stamp_of (shown_tx c.args.hart.now.tx))) o)) (mail_of new.flights) new.next) (sym c.in-Some.is)
    (subst (λ s. SendsOn (mail_of old.flights) old.next (asking c.args.from s c.in-Some.asked ∷ []) (mail_of new.flights) new.next) c.stamp.ensures c.send_one.ensures.sent)
