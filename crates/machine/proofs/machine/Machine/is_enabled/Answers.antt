use Rattle.machine.specs.Making.{victims}
use Rattle.machine.proofs.machine.Machine.is_enabled.Goals as goal

pub returns-clause-steps : goal.returns-clause-steps
returns-clause-steps g c = (victims g.row.SETS c.args.self.now c.args.step, c.has_row.ensures.0, c.has_row.ensures.1)
