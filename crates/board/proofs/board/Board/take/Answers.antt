use Rattle.std.proofs.Common.{subst, sym}
use Rattle.machine.specs.States.{geometry, setting_of}
use Rattle.schedule.specs.Steps.{IsChoiceOf, IsWithin}
use Rattle.schedule.specs.Written.{IsWritable}
use Rattle.board.specs.Boards.{Held}
use Rattle.board.proofs.Courses.{kept_made, kept_segments, kept_writable}
use Rattle.board.proofs.Turns.{turned}
use Rattle.board.proofs.board.Board.take.Goals as goal
use Rattle.board.proofs.board.Board.take.Given.{Over}

chosen_here : (g : Over) (c : goal.After-make g) → IsChoiceOf g.row.SETS c.self.inside.machine c.args.chosen.now.step c.args.chosen.now.choice
chosen_here g c = subst (λ (x : Held g.row.J.Denot). IsChoiceOf g.row.SETS x.machine c.args.chosen.now.step c.args.chosen.now.choice) (sym c.self.view_is) c.requires.chosen

within_here : (g : Over) (c : goal.After-make g) → IsWithin (setting_of c.self.inside.machine) c.args.chosen.now.choice
within_here g c = subst (λ (x : Held g.row.J.Denot). IsWithin (setting_of x.machine) c.args.chosen.now.choice) (sym c.self.view_is) c.requires.within

writable_here : (g : Over) (c : goal.After-make g) → IsWritable c.args.chosen.now.choice
writable_here g c =
    let b = c.self.inside in
    kept_writable (geometry g.row.SETS g.row.WAYS) b.code.program.now b.harts b.size (g.J.Journal.tells b.journal) b.machine c.args.chosen.now.choice c.self.invariant.4 c.self.invariant.0 (within_here g c)

pub invariant_of-self : goal.invariant_of-self
invariant_of-self g c =
    let b = c.self.inside in
    let k = kept_made (geometry g.row.SETS g.row.WAYS) b.code.program.now b.harts b.size (g.J.Journal.tells b.journal) (g.J.Journal.tells c.make.new.self) b.machine c.make.new.machine c.args.chosen.now.step c.args.chosen.now.choice c.make.result c.self.invariant.4 c.self.invariant.0
    (chosen_here g c) (within_here g c) c.make.ensures.made c.make.ensures.err in
    (k, kept_segments (geometry g.row.SETS g.row.WAYS) b.code.program.now b.harts b.size (g.J.Journal.tells c.make.new.self) c.make.new.machine k, c.self.invariant.2, c.self.invariant.3, c.self.invariant.4)

pub returns-clause-ok : goal.returns-clause-ok
returns-clause-ok g c =
    let b : Held g.row.J.Denot = record { program = c.self.inside.code.program.now; harts = c.self.inside.harts; size = c.self.inside.size; machine = c.self.inside.machine; journal = c.self.inside.journal } in
    rw (← c.self.view_is)
    (turned (geometry g.row.SETS g.row.WAYS) g.J.Journal.tells b c.make.new.machine c.make.new.self c.args.chosen.now.step c.args.chosen.now.choice c.make.result (chosen_here g c) (writable_here g c) c.make.ensures.made)
