use Rattle.debugger.proofs.Words.{not_alone}
use Rattle.debugger.proofs.commands.spelling.alone.Goals as goal

pub returns-in-Some : goal.returns-in-Some
returns-in-Some g c = not_alone c.args.words c.in-Some.field-0 c.args.meant c.in-Some.is
