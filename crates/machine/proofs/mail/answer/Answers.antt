use Rattle.std.proofs.Common.{None, refl}
use Rattle.flat.specs.Bytes.{put_at}
use Rattle.machine.specs.Mail.{mail_of}
use Rattle.machine.proofs.Sending.{sends_one}
use Rattle.machine.proofs.mail.answer.Goals as goal

pub returns-clause-sent : goal.returns-clause-sent
returns-clause-sent c =
    let old = c.args.net.now in
    sends_one (put_at c.args.number None (mail_of old.flights)) c.answer.new.self.flights c.answer.result _ old.next c.answer.new.self.next
    (record { next = c.answer.ensures.number; sent = c.answer.ensures.sent; others = c.answer.ensures.others }) refl c.answer.ensures.next
