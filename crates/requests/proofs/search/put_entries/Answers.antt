use Rattle.std.proofs.Common.{ap, Ok}
use Rattle.render.specs.Entries.{entry_line}
use Rattle.texts.proofs.Putting.{puts-nothing, puts-same, puts-cut_at, puts-one_more}
use Rattle.requests.proofs.search.put_entries.Goals as goal

pub loop-entry-init : goal.loop-entry-init
loop-entry-init g c = puts-nothing _

pub returns-in_err-put_entry : goal.returns-in_err-put_entry
returns-in_err-put_entry g c =
    puts-cut_at (entry_line c.args.names.now) c.args.entries.now c.loop-entry.entry-index _ c.loop-entry-test.true c.loop-entry.invariant c.in_err-put_entry.was (puts-same (ap (entry_line c.args.names.now) c.entry-item.is) c.put_entry.ensures) c.from_residual.ensures.0

pub loop-entry-preserved : goal.loop-entry-preserved
loop-entry-preserved g c =
    puts-one_more (entry_line c.args.names.now) c.args.entries.now c.loop-entry.entry-index _ c.loop-entry-test.true c.loop-entry.invariant (puts-same {r = Ok tt} (ap (entry_line c.args.names.now) c.entry-item.is) c.in_ok-put_entry.ensures)
