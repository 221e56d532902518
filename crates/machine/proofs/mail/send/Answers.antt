use Rattle.std.proofs.Common.{Option, sym, subst}
use Rattle.std.specs.Prelude.{option_to_list}
use Rattle.std.specs.Option.{option_map}
use Rattle.words.specs.declared.message.Message.{Message}
use Rattle.protocol.specs.Messages.{shown}
use Rattle.machine.specs.Mail.{SendsOn, mail_of}
use Rattle.machine.proofs.mail.send.Goals as goal

pub returns-in-Some-clause-sent : goal.returns-in-Some-clause-sent
returns-in-Some-clause-sent c =
    let old = c.args.net.now in
    let new = c.send_one.new.net in
    subst (λ (o : Option Message). SendsOn (mail_of old.flights) old.next (option_to_list (option_map shown o)) (mail_of new.flights) new.next) (sym c.in-Some.is) c.send_one.ensures.sent
