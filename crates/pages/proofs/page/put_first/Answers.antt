use Rattle.std.proofs.Common.{◌++◌, codes}
use Rattle.texts.proofs.Putting.{puts-both, puts-cut}
use Rattle.pages.specs.Harts.{harts_text}
use Rattle.pages.specs.Moments.{rest_text}
use Rattle.pages.proofs.page.put_first.Goals as goal

pub returns-in_err-put_all : goal.returns-in_err-put_all
returns-in_err-put_all g c =
    puts-cut (harts_text c.args.names.now g.row.SETS c.args.machine.now ++ (codes "]," ++ (rest_text g.row.SETS c.args.words.now 0 c.args.machine.now ++ codes "moments:[\n")))
    c.in_err-put_all.was c.put_all.ensures c.from_residual.ensures.0

pub returns-in_err-put_harts : goal.returns-in_err-put_harts
returns-in_err-put_harts g c =
    puts-both c.in_ok-put_all.ensures
    (puts-cut (codes "]," ++ (rest_text g.row.SETS c.args.words.now 0 c.args.machine.now ++ codes "moments:[\n")) c.in_err-put_harts.was c.put_harts.ensures c.from_residual-in_err-put_harts.ensures.0)

pub returns-in_err-put_all-2 : goal.returns-in_err-put_all-2
returns-in_err-put_all-2 g c =
    puts-both c.in_ok-put_all.ensures (puts-both c.in_ok-put_harts.ensures
    (puts-cut (rest_text g.row.SETS c.args.words.now 0 c.args.machine.now ++ codes "moments:[\n") c.in_err-put_all-2.was c.put_all-2.ensures c.from_residual-in_err-put_all-2.ensures.0))

pub returns-in_err-put_rest : goal.returns-in_err-put_rest
returns-in_err-put_rest g c =
    puts-both c.in_ok-put_all.ensures (puts-both c.in_ok-put_harts.ensures (puts-both c.in_ok-put_all-2.ensures
    (puts-cut (codes "moments:[\n") c.in_err-put_rest.was c.put_rest.ensures c.from_residual-in_err-put_rest.ensures.0)))

pub returns : goal.returns
returns g c = puts-both c.in_ok-put_all.ensures (puts-both c.in_ok-put_harts.ensures (puts-both c.in_ok-put_all-2.ensures (puts-both c.in_ok-put_rest.ensures c.put_all-3.ensures)))
