use Rattle.std.proofs.Common.{ap, Ok, refl, ◌∙◌}
use Rattle.std.specs.List.{flat_map}
use Rattle.texts.proofs.Putting.{puts-same}
use Rattle.debugger.specs.Looks.{kept_line}
use Rattle.debugger.proofs.Lists.{up_to-start, up_to-more, up_to-cut, up_to-end}
use Rattle.debugger.proofs.commands.blocks.put_entries.Goals as goal

pub loop-number-init : goal.loop-number-init
loop-number-init g c =
    up_to-start kept_line c.args.machine.now.directory.kept c.into_iter-number-iterator.result _ (c.into_iter-number-iterator.ensures.into_iter_gives.0 ∙ c.kept-number-items.ensures.entries)

pub returns-in_err-put_kept : goal.returns-in_err-put_kept
returns-in_err-put_kept g c = record {
  text = flat_map kept_line c.args.machine.now.directory.kept;
  is = refl;
  puts = up_to-cut kept_line {x = (c.in-Some.number.now, c.in-Some.entry.now)} (rw c.in-Some.ensures.steps at c.loop-number.invariant) c.in_err-put_kept.was
      (puts-same (ap (λ n. kept_line (n, c.in-Some.entry.now)) c.new.ensures) c.put_kept.ensures) c.from_residual.ensures.0;
}

pub loop-number-preserved : goal.loop-number-preserved
loop-number-preserved g c =
    up_to-more kept_line {x = (c.in-Some.number.now, c.in-Some.entry.now)} (rw c.in-Some.ensures.steps at c.loop-number.invariant)
    (puts-same {r = Ok tt} (ap (λ n. kept_line (n, c.in-Some.entry.now)) c.new.ensures) c.in_ok-put_kept.ensures)

pub returns : goal.returns
returns g c = record {
  text = flat_map kept_line c.args.machine.now.directory.kept;
  is = refl;
  puts = up_to-end kept_line (rw c.in-None.ensures.steps.0 at c.loop-number.invariant);
}
