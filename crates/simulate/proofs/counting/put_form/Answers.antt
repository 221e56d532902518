use Rattle.std.proofs.Common.{sym, subst}
use Rattle.command_line.specs.declared.request.Stats.{Stats}
use Rattle.watch.specs.Kinds.{count_at}
use Rattle.watch.specs.Traffic.{figure_at}
use Rattle.texts.specs.Puts.{Puts}
use Rattle.simulate.specs.Counted.{counts_text}
use Rattle.simulate.proofs.counting.put_form.Goals as goal

pub returns-in-Table : goal.returns-in-Table
returns-in-Table g c =
    subst (λ (form : Stats). Puts (g.S.Sink.state c.args.sink.now) (g.S.Sink.state c.put_tables.new.sink)
    (counts_text form (count_at c.args.tally.now.harts) c.args.harts (figure_at c.args.tally.now.machine)) c.put_tables.result) (sym c.in-Table.is) c.put_tables.ensures

pub returns-in-Csv : goal.returns-in-Csv
returns-in-Csv g c =
    subst (λ (form : Stats). Puts (g.S.Sink.state c.args.sink.now) (g.S.Sink.state c.put_lines.new.sink)
    (counts_text form (count_at c.args.tally.now.harts) c.args.harts (figure_at c.args.tally.now.machine)) c.put_lines.result) (sym c.in-Csv.is) c.put_lines.ensures
