use Rattle.std.proofs.Common.{◌++◌, ap, Ok}
use Rattle.std.specs.List.{flat_map}
use Rattle.texts.proofs.Putting.{puts-both, puts-cut, puts-same}
use Rattle.machine.specs.States.{geometry}
use Rattle.pages.specs.Memory.{digits_item}
use Rattle.pages.specs.Pages.{first_text, sizes_text}
use Rattle.pages.proofs.page.put_opening.Goals as goal

pub returns-in_err-put_sizes : goal.returns-in_err-put_sizes
returns-in_err-put_sizes g c =
    puts-cut (flat_map digits_item c.args.words.now ++ first_text c.args.names.now g.row.SETS c.args.words.now c.args.machine.now) c.in_err-put_sizes.was
    (puts-same (ap (sizes_text (geometry g.row.SETS g.row.WAYS)) c.harts.ensures.value) c.put_sizes.ensures) c.from_residual.ensures.0

pub returns-in_err-put_addresses : goal.returns-in_err-put_addresses
returns-in_err-put_addresses g c =
    puts-both (puts-same {r = Ok tt} (ap (sizes_text (geometry g.row.SETS g.row.WAYS)) c.harts.ensures.value) c.in_ok-put_sizes.ensures)
    (puts-cut (first_text c.args.names.now g.row.SETS c.args.words.now c.args.machine.now) c.in_err-put_addresses.was c.put_addresses.ensures c.from_residual-in_err-put_addresses.ensures.0)

pub returns : goal.returns
returns g c =
    puts-both (puts-same {r = Ok tt} (ap (sizes_text (geometry g.row.SETS g.row.WAYS)) c.harts.ensures.value) c.in_ok-put_sizes.ensures)
    (puts-both c.in_ok-put_addresses.ensures c.put_first.ensures)
