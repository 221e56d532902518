use Rattle.std.proofs.Common.{◌∷◌, [], None}
use Rattle.flat.specs.Bytes.{put_at}
use Rattle.machine.specs.Mail.{mail_of}
use Rattle.machine.proofs.Sending.{sends_on}
use Rattle.machine.proofs.mail.answer_get.Goals as goal

-- the grant, and then its forwards
pub returns-clause-sent : goal.returns-clause-sent
returns-clause-sent c =
    let old = c.args.net.now in
    let mid = c.answer.new.net in
    let new = c.forward.new.net in
    sends_on (_ ∷ []) _ (put_at c.args.number None (mail_of old.flights)) (mail_of mid.flights) (mail_of new.flights) old.next mid.next new.next c.answer.ensures.sent c.forward.ensures.sent
