use Rattle.std.proofs.Common.{None, sym, subst}
use Rattle.std.specs.Prelude.{option_to_list}
use Rattle.flat.specs.Bytes.{put_at}
use Rattle.hart.specs.declared.reply.Settled.{Settled}
use Rattle.hart.specs.Rows.{done_of}
use Rattle.machine.specs.Mail.{SendsOn, mail_of}
use Rattle.machine.proofs.mail.answer_done.Goals as goal

-- nothing is sent
pub returns-in-Waiting-clause-sent : goal.returns-in-Waiting-clause-sent
returns-in-Waiting-clause-sent c =
    let old = c.args.net.now in
    let new = c.take.new.net in
    subst (λ (s : Settled). SendsOn (put_at c.args.number None (mail_of old.flights)) old.next (option_to_list (done_of c.args.from s)) (mail_of new.flights) new.next) (sym c.in-Waiting.is)
    (c.take.ensures.mail, c.take.ensures.number)
