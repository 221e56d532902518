use Rattle.std.proofs.Common.{Ok, Err, refl}
use Rattle.debugger.proofs.playing.exchange.Goals as goal

pub returns-in-Ok : goal.returns-in-Ok
returns-in-Ok g c = (Ok tt, c.in-Ok.ensures, (c.read_line-reading.result, c.read_line-reading.ensures, c.reply.ensures))

pub returns-in-Err : goal.returns-in-Err
returns-in-Err g c = (Err c.in-Err.field-0, c.in-Err.ensures, (refl, (refl, refl), refl))
