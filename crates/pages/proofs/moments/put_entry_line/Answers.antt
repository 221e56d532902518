use Rattle.std.proofs.Common.{◌++◌, codes}
use Rattle.texts.proofs.Putting.{puts-both, puts-cut}
use Rattle.disassembler.specs.Tables.{no_symbols}
use Rattle.render.specs.Entries.{entry_line}
use Rattle.pages.specs.Moments.{entry_name}
use Rattle.pages.proofs.moments.put_entry_line.Goals as goal

pub returns-in_err-put_all : goal.returns-in_err-put_all
returns-in_err-put_all g c =
    puts-cut (entry_line no_symbols c.args.entry.now ++ (codes "`," ++ entry_name c.args.names.now c.args.entry.now)) c.in_err-put_all.was c.put_all.ensures c.from_residual.ensures.0

pub returns-in_err-put_entry : goal.returns-in_err-put_entry
returns-in_err-put_entry g c =
    puts-both c.in_ok-put_all.ensures
    (puts-cut (codes "`," ++ entry_name c.args.names.now c.args.entry.now) c.in_err-put_entry.was (rw c.none-unnamed.ensures at c.put_entry.ensures) c.from_residual-in_err-put_entry.ensures.0)

pub returns-in_err-put_all-2 : goal.returns-in_err-put_all-2
returns-in_err-put_all-2 g c =
    puts-both c.in_ok-put_all.ensures (puts-both (rw c.none-unnamed.ensures at c.in_ok-put_entry.ensures)
    (puts-cut (entry_name c.args.names.now c.args.entry.now) c.in_err-put_all-2.was c.put_all-2.ensures c.from_residual-in_err-put_all-2.ensures.0))

pub returns : goal.returns
returns g c = puts-both c.in_ok-put_all.ensures (puts-both (rw c.none-unnamed.ensures at c.in_ok-put_entry.ensures) (puts-both c.in_ok-put_all-2.ensures c.put_entry_name.ensures))
