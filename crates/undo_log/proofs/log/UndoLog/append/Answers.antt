use Rattle.std.proofs.Common.{◌<◌, ◌∙◌, ap, arith, rules}
use Rattle.undo_log.specs.declared.record.Record.{Record}
use Rattle.undo_log.specs.Log.{records}
use Rattle.undo_log.proofs.Words.{IsRecord}
use Rattle.undo_log.proofs.Listed.{records-appended}
use Rattle.undo_log.proofs.log.UndoLog.append.Goals as goal

pub returns-clause-records : goal.returns-clause-records
returns-clause-records c =
    let old = c.args.self.now in
    let r : Record = record { block = c.args.block; before = c.args.before.now } in
    let is : IsRecord r = record { address = c.requires.address; words = c.told-before; fits = λ k. search (rules, c.fits-before) } in
    let room : old.count < 113 = search (rules, c.is_full.ensures, c.if-is_full.false) in
    ap records c.push.ensures.new ∙ records-appended old r (omega (arith, room, c.push.ensures.size)) is
