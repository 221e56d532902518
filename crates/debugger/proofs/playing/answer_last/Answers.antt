use Rattle.std.proofs.Common.{◌≢◌, Ok, Err, length, arith}
use Rattle.debugger.proofs.Ending.{ends_with}
use Rattle.debugger.proofs.playing.answer_last.Goals as goal

pub returns-in-Ok : goal.returns-in-Ok
returns-in-Ok g c =
    let some : length c.args.line.now ≢ 0 = grind (arith, c.is_empty.ensures, c.if-is_empty.false) in
    ends_with c.args.names.now (g.D.Debugged.answers c.args.names.now) c.args.line.now _ _ _ _ (Ok c.in-Ok.field-0) some c.in-Ok.ensures

pub returns-in-Err : goal.returns-in-Err
returns-in-Err g c =
    let some : length c.args.line.now ≢ 0 = grind (arith, c.is_empty.ensures, c.if-is_empty.false) in
    ends_with c.args.names.now (g.D.Debugged.answers c.args.names.now) c.args.line.now _ _ _ _ (Err c.in-Err.fault) some c.in-Err.ensures
