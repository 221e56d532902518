use Rattle.std.proofs.Common.{sym, ap, ◌∙◌}
use Rattle.protocol.specs.Values.{owner_with}
use Rattle.machine.specs.Mail.{in_flight}
use Rattle.machine.proofs.InPlace.{of_parts, at_ack, at_request, at_done, at_put, at_memory}
use Rattle.machine.proofs.values.in_place.Goals as goal

pub returns-in-Some-acknowledged : goal.returns-in-Some-acknowledged
returns-in-Some-acknowledged g c = of_parts g.row.SETS c.args.block c.args.seats.now c.args.directory.now c.args.net.now.flights c.in-Some-acknowledged.content (λ m keys below.
    at_ack g.row.SETS c.args.block (record m { seats = c.args.seats.now; directory = c.args.directory.now; flights = c.args.net.now.flights }) keys c.owner-owner.result
    (c.owner-owner.ensures keys below ∙ ap (λ e. owner_with keys (in_flight c.args.net.now.flights) c.args.block e.busy e.owner) c.entry.ensures.value)
    c.in-Some-acknowledged.content
    (sym c.in_default.is ∙ c.owned.ensures)
    (sym c.in-Some-acknowledged.is ∙ c.acknowledged.ensures keys below))

pub returns-in-Some-kept : goal.returns-in-Some-kept
returns-in-Some-kept g c = of_parts g.row.SETS c.args.block c.args.seats.now c.args.directory.now c.args.net.now.flights c.in-Some-kept.content (λ m keys below.
    at_request g.row.SETS c.args.block (record m { seats = c.args.seats.now; directory = c.args.directory.now; flights = c.args.net.now.flights }) keys c.owner-owner.result
    (c.owner-owner.ensures keys below ∙ ap (λ e. owner_with keys (in_flight c.args.net.now.flights) c.args.block e.busy e.owner) c.entry.ensures.value)
    c.in-Some-kept.content
    (sym c.in_default.is ∙ c.owned.ensures)
    (sym c.in_default-acknowledged.is ∙ c.acknowledged.ensures keys below)
    (sym c.in-Some-kept.is ∙ c.kept.ensures))

pub returns-in-Some-finished : goal.returns-in-Some-finished
returns-in-Some-finished g c = of_parts g.row.SETS c.args.block c.args.seats.now c.args.directory.now c.args.net.now.flights c.in-Some-finished.content (λ m keys below.
    at_done g.row.SETS c.args.block (record m { seats = c.args.seats.now; directory = c.args.directory.now; flights = c.args.net.now.flights }) keys c.owner-owner.result
    (c.owner-owner.ensures keys below ∙ ap (λ e. owner_with keys (in_flight c.args.net.now.flights) c.args.block e.busy e.owner) c.entry.ensures.value)
    c.in-Some-finished.content
    (sym c.in_default.is ∙ c.owned.ensures)
    (sym c.in_default-acknowledged.is ∙ c.acknowledged.ensures keys below)
    (sym c.in_default-kept.is ∙ c.kept.ensures)
    (sym c.in-Some-finished.is ∙ c.finished.ensures keys below))

pub returns-in-Some-put : goal.returns-in-Some-put
returns-in-Some-put g c = of_parts g.row.SETS c.args.block c.args.seats.now c.args.directory.now c.args.net.now.flights c.in-Some-put.content (λ m keys below.
    at_put g.row.SETS c.args.block (record m { seats = c.args.seats.now; directory = c.args.directory.now; flights = c.args.net.now.flights }) keys c.owner-owner.result
    (c.owner-owner.ensures keys below ∙ ap (λ e. owner_with keys (in_flight c.args.net.now.flights) c.args.block e.busy e.owner) c.entry.ensures.value)
    c.in-Some-put.content
    (sym c.in_default.is ∙ c.owned.ensures)
    (sym c.in_default-acknowledged.is ∙ c.acknowledged.ensures keys below)
    (sym c.in_default-kept.is ∙ c.kept.ensures)
    (sym c.in_default-finished.is ∙ c.finished.ensures keys below)
    (sym c.in-Some-put.is ∙ c.put.ensures))

pub returns : goal.returns
returns g c = of_parts g.row.SETS c.args.block c.args.seats.now c.args.directory.now c.args.net.now.flights c.in_memory.result (λ m keys below.
    at_memory g.row.SETS c.args.block (record m { seats = c.args.seats.now; directory = c.args.directory.now; flights = c.args.net.now.flights }) keys c.owner-owner.result
    (c.owner-owner.ensures keys below ∙ ap (λ e. owner_with keys (in_flight c.args.net.now.flights) c.args.block e.busy e.owner) c.entry.ensures.value)
    c.in_memory.result
    (sym c.in_default.is ∙ c.owned.ensures)
    (sym c.in_default-acknowledged.is ∙ c.acknowledged.ensures keys below)
    (sym c.in_default-kept.is ∙ c.kept.ensures)
    (sym c.in_default-finished.is ∙ c.finished.ensures keys below)
    (sym c.in_default-put.is ∙ c.put.ensures)
    c.in_memory.ensures)
