use Rattle.std.proofs.Common.{refl}
use Rattle.debugger.specs.Looks.{refusal}
use Rattle.debugger.proofs.Looked.{look_whole, look_cut, nothing_put}
use Rattle.debugger.proofs.command.show.Goals as goal

pub returns-in-Ok-clause-shows : goal.returns-in-Ok-clause-shows
returns-in-Ok-clause-shows g c =
    let whole = look_whole c.args.names.now g.row.SETS c.args.machine.now c.args.what _ _ c.look.result
    (nothing_put g.S.Sink.state c.args.sink.now c.look.new.sink (refusal c.args.machine.now c.args.what) c.look.result c.look.ensures.refused) c.look.ensures.shown c.in-Ok.is in
    (whole.0, whole.1, refl)

pub returns-in-Err-clause-shows : goal.returns-in-Err-clause-shows
returns-in-Err-clause-shows g c =
    look_cut c.args.names.now g.row.SETS c.args.machine.now c.args.what _ _ c.look.result c.in-Err.fault
    (nothing_put g.S.Sink.state c.args.sink.now c.look.new.sink (refusal c.args.machine.now c.args.what) c.look.result c.look.ensures.refused) c.look.ensures.shown c.in-Err.is
