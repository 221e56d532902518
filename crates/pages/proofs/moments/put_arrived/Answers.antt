use Rattle.std.proofs.Common.{ap, ◌∙◌}
use Rattle.texts.proofs.Putting.{puts-same}
use Rattle.machine.specs.States.{shown}
use Rattle.protocol.specs.Messages.{shown as shown_message}
use Rattle.schedule.specs.declared.choices.Name.{Name}
use Rattle.pages.specs.Moments.{known_text}
use Rattle.pages.proofs.Blocks.{block_named}
use Rattle.pages.proofs.moments.put_arrived.Goals as goal

pub returns : goal.returns
returns g c =
    let flight = c.args.flight.now in
    puts-same (ap (known_text (shown g.row.SETS c.args.machine.now) flight.number) (ap (λ (n : Name). n.block) c.name_of.ensures ∙ block_named (shown_message flight.message))) c.put_known.ensures
