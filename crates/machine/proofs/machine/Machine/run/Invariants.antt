use Rattle.std.proofs.Common.{take}
use Rattle.machine.specs.Runs.{RunsInto}
use Rattle.machine.specs.States.{shown, geometry}
use Rattle.machine.proofs.machine.Machine.run.Given as goal

-- the steps so far were made
abbrev pub invariant-loop-made : goal.invariant-loop-made
invariant-loop-made g l = RunsInto (geometry g.row.SETS g.row.WAYS) (shown g.row.SETS l.fn.self) l.fn.entries.items (take l.made l.steps) (shown g.row.SETS l.self) l.entries.items
