use Rattle.std.proofs.Common.{◌≡◌, ◌<◌, ap, arith, Ok, refl}
use Rattle.std.specs.List.{flat_map, range_with_len}
use Rattle.machine.specs.States.{shown, setting_of}
use Rattle.texts.proofs.Putting.{puts-same, puts-cut_first, puts-one_first}
use Rattle.debugger.specs.Looks.{line_of_hart}
use Rattle.debugger.proofs.commands.harts.put_harts.Goals as goal

pub returns-in_err-put_hart : goal.returns-in_err-put_hart
returns-in_err-put_hart g c =
    let line = line_of_hart c.args.names.now (shown g.row.SETS c.args.machine.now) in
    let inside : c.loop-number.number < (setting_of c.args.machine.now).count = omega (arith, c.harts-number-end.ensures.value) in
    record {
      text = flat_map line (range_with_len 0 (setting_of c.args.machine.now).count);
      is = refl;
      puts = puts-cut_first line inside c.loop-number.invariant c.in_err-put_hart.was (puts-same (ap line c.new.ensures) c.put_hart.ensures) c.from_residual.ensures.0;
    }

pub loop-number-preserved : goal.loop-number-preserved
loop-number-preserved g c =
    let line = line_of_hart c.args.names.now (shown g.row.SETS c.args.machine.now) in
    puts-one_first line c.loop-number.invariant (puts-same {r = Ok tt} (ap line c.new.ensures) c.in_ok-put_hart.ensures)

pub returns : goal.returns
returns g c =
    let line = line_of_hart c.args.names.now (shown g.row.SETS c.args.machine.now) in
    let end : c.loop-number.number ≡ (setting_of c.args.machine.now).count = omega (arith, c.harts-number-end.ensures.value) in
    record {
      text = flat_map line (range_with_len 0 (setting_of c.args.machine.now).count);
      is = refl;
      puts = puts-same (ap (λ n. flat_map line (range_with_len 0 n)) end) c.loop-number.invariant;
    }
