use Rattle.std.proofs.Common.{refl}
use Rattle.machine.specs.Mail.{mail_of}
use Rattle.machine.proofs.Sending.{sends_one}
use Rattle.machine.proofs.mail.send_one.Goals as goal

pub returns-clause-sent : goal.returns-clause-sent
returns-clause-sent c =
    let old = c.args.net.now in
    sends_one (mail_of old.flights) c.send.new.self.flights c.send.result _ old.next c.send.new.self.next
    (record { next = c.send.ensures.number; sent = c.send.ensures.sent; others = c.send.ensures.others }) refl c.send.ensures.next
