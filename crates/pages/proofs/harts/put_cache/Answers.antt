use Rattle.std.proofs.Common.{◌++◌, codes}
use Rattle.std.specs.List.{flat_map}
use Rattle.texts.proofs.Putting.{puts-both, puts-cut}
use Rattle.pages.specs.Harts.{kept_line}
use Rattle.pages.proofs.harts.put_cache.Goals as goal

pub returns-in_err-put_all : goal.returns-in_err-put_all
returns-in_err-put_all g c =
    puts-cut (flat_map (kept_line g.row.SETS c.args.machine.now c.args.hart) c.args.machine.now.directory.kept ++ codes "]}") c.in_err-put_all.was c.put_all.ensures c.from_residual.ensures.0

pub returns-in_err-put_lines : goal.returns-in_err-put_lines
returns-in_err-put_lines g c = puts-both c.in_ok-put_all.ensures (puts-cut (codes "]}") c.in_err-put_lines.was c.put_lines.ensures c.from_residual-in_err-put_lines.ensures.0)

pub returns : goal.returns
returns g c = puts-both c.in_ok-put_all.ensures (puts-both c.in_ok-put_lines.ensures c.put_all-2.ensures)
