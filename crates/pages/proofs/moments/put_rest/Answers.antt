use Rattle.std.proofs.Common.{◌++◌, codes}
use Rattle.std.specs.List.{flat_map}
use Rattle.texts.proofs.Putting.{puts-both, puts-cut}
use Rattle.pages.specs.Flights.{flight_item, first_told}
use Rattle.pages.specs.Memory.{word_item}
use Rattle.pages.proofs.moments.put_rest.Goals as goal

pub returns-in_err-put_all : goal.returns-in_err-put_all
returns-in_err-put_all g c =
    let m = c.args.machine.now in
    puts-cut (flat_map (flight_item (first_told c.args.sent m.sent)) m.flights ++ (codes "],words:[" ++ (flat_map (word_item g.row.SETS m) c.args.words.now ++ codes "]},\n"))) c.in_err-put_all.was c.put_all.ensures c.from_residual.ensures.0

pub returns-in_err-put_flights : goal.returns-in_err-put_flights
returns-in_err-put_flights g c =
    let m = c.args.machine.now in
    puts-both c.in_ok-put_all.ensures
    (puts-cut (codes "],words:[" ++ (flat_map (word_item g.row.SETS m) c.args.words.now ++ codes "]},\n")) c.in_err-put_flights.was c.put_flights.ensures c.from_residual-in_err-put_flights.ensures.0)

pub returns-in_err-put_all-2 : goal.returns-in_err-put_all-2
returns-in_err-put_all-2 g c =
    let m = c.args.machine.now in
    puts-both c.in_ok-put_all.ensures (puts-both c.in_ok-put_flights.ensures
    (puts-cut (flat_map (word_item g.row.SETS m) c.args.words.now ++ codes "]},\n") c.in_err-put_all-2.was c.put_all-2.ensures c.from_residual-in_err-put_all-2.ensures.0))

pub returns-in_err-put_words : goal.returns-in_err-put_words
returns-in_err-put_words g c =
    puts-both c.in_ok-put_all.ensures (puts-both c.in_ok-put_flights.ensures (puts-both c.in_ok-put_all-2.ensures
    (puts-cut (codes "]},\n") c.in_err-put_words.was c.put_words.ensures c.from_residual-in_err-put_words.ensures.0)))

pub returns : goal.returns
returns g c = puts-both c.in_ok-put_all.ensures (puts-both c.in_ok-put_flights.ensures (puts-both c.in_ok-put_all-2.ensures (puts-both c.in_ok-put_words.ensures c.put_all-3.ensures)))
