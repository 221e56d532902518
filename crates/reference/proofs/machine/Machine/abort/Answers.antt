use Rattle.std.proofs.Common.{refl}
use Rattle.std.specs.Vec.{with_item}
use Rattle.reference.specs.declared.machine.Machine.{Machine}
use Rattle.reference.proofs.Moved.{rolled_back}
use Rattle.reference.proofs.machine.Machine.abort.Goals as goal

pub returns : goal.returns
returns c =
    let m = c.args.self.now in
    let n : Machine = record { program = m.program; memory = m.memory; harts = with_item m.harts c.args.i c.abort.new.self; few_harts = m.few_harts } in
    rolled_back m n c.args.i _ c.abort.new.self c.args.cause c.requires.hart c.index_mut.ensures.value refl refl refl refl c.abort.ensures
